-- What the state of a reader represents.
use Rattle.dn_instance.specs.State.Helds.{Parsed}
use Rattle.std.specs.Prelude.{◌≡◌, ℕ, ◌≤◌, List, [], ◌∷◌, ◌++◌, length, take, cond, true, Option, Some, None, MatchOption, MatchResult, Result, Ok, Err}
use Rattle.dn_line.specs.Pieces.{parts, lines, is_line_feed}
use Rattle.std.specs.List.{list_all}
use Rattle.dn_line.specs.State.LineStates.{LineSoFar, LineReaderAt, is_inner, used_of}
use Rattle.dn_line.specs.declared.line_reader.LineReader.{LineReader}
use Rattle.dn_instance.specs.declared.reader.Reader.{Reader}
use Rattle.dn_instance.specs.declared.declared.Declared.{Declared}
use Rattle.dn_instance.specs.declared.refusal.Refusal.{Refusal}
use Rattle.dn_instance.specs.declared.refusal.Refusal.TheVariants.{Memory}
use Rattle.dn_instance.specs.Readers.{WantsMemory, ended}
use Rattle.dn_instance.specs.State.Declarations.{declared_in}
use Rattle.dn_instance.specs.EntryCount.{entries_so_far}
use Rattle.dn_instance.specs.State.ReaderResults.{EntriesBefore, IsRefused, IsNext, lines_taken, refusal_of}
use Rattle.dn_instance.specs.Texts.{items_of}
use Rattle.dn_instance.specs.State.TextsSoFar.{ReadsOn, TextAt}

-- the bytes of a text after its last LF
abbrev pub open_of : List ℕ → List ℕ
open_of t = (parts is_line_feed t).1

-- the line reader has read these bytes of an open line, or none if its line has ended
pub record HasOpen (r : LineReader) (bytes : List ℕ) : Type 0 where
  pub line : LineSoFar
  pub stands : LineReaderAt r line
  pub open_is : cond line.ended [] line.bytes ≡ bytes

-- the reader has taken the complete lines of the text, and has read the bytes after its last LF
pub record IsReading (r : Reader) (t : List ℕ) : Type 0 where
  pub read : TextAt r.text (ended t)
  pub line : HasOpen r.line (open_of t)

-- the reader has taken those of these lines that precede the refused line
pub record StopsIn (r : Reader) (ls : List (List ℕ)) (e : Refusal) : Type 0 where
  pub before : List (List ℕ)
  pub rest : List (List ℕ)
  pub whole : ls ≡ before ++ rest
  pub read : TextAt r.text before
  pub next : IsNext (length before) ls e

-- the reader represents these bytes: it has read them all, or it keeps the refusal of one of their complete lines and
-- has taken the lines before that line
abbrev pub ReaderAt : Reader → List ℕ → Type 0
ReaderAt r t = MatchOption r.refusal (IsReading r t) (λ e. IsRefused 0 (ended t) e × StopsIn r (ended t) e)

-- the reader has taken one more line, or it keeps the refusal of this line and has taken only the lines before it
abbrev pub ClosesLine : Reader → List (List ℕ) → List ℕ → Result (Unit {0}) Refusal → Type 0
ClosesLine r ls l (Ok x) = TextAt r.text (ls ++ l ∷ [])
ClosesLine r ls l (Err e) =
    (r.refusal ≡ Some e) × IsRefused (length ls) (ls ++ l ∷ []) e × StopsIn r (ls ++ l ∷ []) e
    × (lines_taken r ≡ length ls)

-- the reader has read all lines before the end, or the next one after those that it has read is refused
abbrev pub TakesBlock : Reader → List (List ℕ) → (bytes end : List ℕ) → Result (Unit {0}) Refusal → Type 0
TakesBlock r ls bytes end (Ok x) = ReadsOn r.text ls bytes end
TakesBlock r ls bytes end (Err e) =
    (l rest : List ℕ) × (on : ReadsOn r.text ls bytes (l ++ 10 ∷ rest)) × (list_all is_inner l ≡ true)
    × ClosesLine r (ls ++ on.more) l (Err e)

-- the reader has taken all lines of the text, or the text is refused; memory can run out only at a last line without an
-- LF
abbrev pub TakesAll : Reader → List ℕ → Result (Unit {0}) Refusal → Type 0
TakesAll r t (Ok x) = TextAt r.text (lines t)
TakesAll r t (Err e) = IsRefused (length (ended t)) (lines t) e

-- the reader keeps the refusal of one of these lines and has taken at least the first `before` lines; memory can run
-- out only after these
abbrev pub StopsAfter : Reader → ℕ → List (List ℕ) → Refusal → Type 0
StopsAfter r before ls e =
    (r.refusal ≡ Some e) × IsRefused before ls e × StopsIn r ls e × (before ≤ lines_taken r)

-- after t, the reader has read the text up to u, or it keeps the refusal of a complete line of u
abbrev pub Advances : Reader → List ℕ → List ℕ → Result ℕ Refusal → Type 0
Advances r t u (Ok n) = IsReading r u
Advances r t u (Err e) = StopsAfter r (length (ended t)) (ended u) e

-- the bytes of a piece up to and including its first LF, or all if it has no LF
abbrev pub first_line : List ℕ → List ℕ
first_line piece = take (used_of piece) piece

-- this holds of any bytes that the reader has read
abbrev pub WhileReading : Reader → (List ℕ → Type 0) → Type 0
WhileReading r P = (t : List ℕ) → IsReading r t → P t

-- on an error, the new reader keeps this refusal; otherwise, which refusal the reader keeps has not changed
abbrev pub KeepsRefusal : {T : Type 0} → Reader → Reader → Result T Refusal → Type 0
KeepsRefusal old new result =
    MatchResult result (λ x. refusal_of new ≡ refusal_of old) (λ e. refusal_of new ≡ Some e)

-- if memory runs out in a piece, it runs out at a line that was not complete before the piece, and the reader has taken
-- all lines that were complete before it
abbrev pub WantsInPiece : Reader → Reader → List ℕ → Result (Unit {0}) Refusal → Type 0
WantsInPiece old new piece result =
    (t : List ℕ) → ReaderAt old t → refusal_of old ≡ None → result ≡ Err Memory
    → WantsMemory (length (ended t)) (ended (t ++ piece)) × (length (ended t) ≤ lines_taken new)

-- if memory runs out at the end of a text, it runs out at a last line without an LF
abbrev pub WantsAtEnd : Reader → Result Parsed Refusal → Type 0
WantsAtEnd r result =
    (t : List ℕ) → ReaderAt r t → refusal_of r ≡ None → result ≡ Err Memory → WantsMemory (length (ended t)) (lines t)

-- n is the number of entries that the complete lines make, if the reader has no refusal
abbrev pub CountsRead : Reader → ℕ → Type 0
CountsRead r n = (t : List ℕ) → ReaderAt r t → refusal_of r ≡ None → n ≡ entries_so_far (items_of (ended t))

-- n is the number of entries that the lines before the refused line make, if the reader has a refusal
abbrev pub CountsBefore : Reader → ℕ → Type 0
CountsBefore r n =
    (t : List ℕ) (e : Refusal) → ReaderAt r t → refusal_of r ≡ Some e → EntriesBefore (lines_taken r) (ended t) e n

-- the complete lines declare this, if the reader has no refusal
abbrev pub DeclaresRead : Reader → Option Declared → Type 0
DeclaresRead r d = (t : List ℕ) → ReaderAt r t → refusal_of r ≡ None → d ≡ declared_in (items_of (ended t))

-- the lines before the refused line declare this, if the reader has a refusal
abbrev pub DeclaresBefore : Reader → Option Declared → Type 0
DeclaresBefore r d =
    (t : List ℕ) (e : Refusal) → ReaderAt r t → refusal_of r ≡ Some e
    → IsNext (lines_taken r) (ended t) e × (d ≡ declared_in (items_of (take (lines_taken r) (ended t))))
