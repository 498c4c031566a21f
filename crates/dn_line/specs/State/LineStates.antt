-- The state of a line, and the line that a reader represents.
use Rattle.std.specs.Prelude.{◌≡◌, ℕ, List, [], ◌∷◌, ◌++◌, ◌+◌, length, take, min, map, filter, Bool, not, ◌&&◌, cond, true, false, nat_lt}
use Rattle.std.specs.List.{position_or_len, before_first}
use Rattle.dn_line.specs.Pieces.{parts, has_bytes, is_line_feed}
use Rattle.dn_line.specs.Words.{is_blank, said, words, is_comment}
use Rattle.dn_line.specs.State.OpenWords.{WordAt}
use Rattle.dn_line.specs.declared.word.Word.{Word}
use Rattle.dn_line.specs.declared.words.Words.{Words}
use Rattle.dn_line.specs.declared.line_state.LineState.{LineState}
use Rattle.dn_line.specs.declared.line_reader.LineReader.{LineReader}

-- a list of the piece alone, or the empty list if the piece is empty
abbrev pub if_any : List ℕ → List (List ℕ)
if_any piece = filter has_bytes (piece ∷ [])

-- the state keeps the first seven of these words; no line has more than six
pub record KeepsWords (s : Words) (ws : List Word) : Type 0 where
  pub count_is : s.count ≡ min (length ws) 7
  pub kept_is : take s.count s.kept ≡ take 7 ws

-- the state has taken these closed pieces between blanks, and this piece that may continue
pub record LineStateAt (s : LineState) (p : List (List ℕ) × List ℕ) : Type 0 where
  pub words_are : KeepsWords s.words (map said (filter has_bytes p.0))
  pub last_is : WordAt s.last p.1

-- `Is` holds of any pieces, the closed ones and the open one, whose words the state has
abbrev pub OfPieces : LineState → (List (List ℕ) × List ℕ → Type 0) → Type 0
OfPieces s Is = (p : List (List ℕ) × List ℕ) → LineStateAt s p → Is p

-- after the bytes l, the state has taken all of the piece but the rest
pub record UsedUpTo (s : LineState) (l piece rest : List ℕ) : Type 0 where
  pub used : List ℕ
  pub whole : used ++ rest ≡ piece
  pub stands : LineStateAt s (parts is_blank (l ++ used))

-- the first word begins with `c`
abbrev pub begins_comment : List (List ℕ) → Bool
begins_comment [] = false
begins_comment (w ∷ ws) = is_comment w

-- the first of the words begins with `c`, or this value if there are no words
abbrev pub comment_of : List Word → Bool → Bool
comment_of [] b = b
comment_of (w ∷ ws) b = w.comment

-- the state has taken the line to its end, or into a comment
pub record Reached (s : LineState) (l : List ℕ) : Type 0 where
  pub used : List ℕ
  pub rest : List ℕ
  pub whole : used ++ rest ≡ l
  pub stands : LineStateAt s (parts is_blank used)
  pub enough : begins_comment (words used) ≡ false → rest ≡ []

-- after the bytes l, the state has taken the piece to the rest, or is in a comment
pub record FedUpTo (s : LineState) (l piece rest : List ℕ) : Type 0 where
  pub fed : List ℕ
  pub whole : fed ++ rest ≡ piece
  pub reached : Reached s (l ++ fed)

-- the state has all words of the line, or the line is a comment and the state has its first words
pub record HasWordsOf (s : LineState) (l : List ℕ) : Type 0 where
  pub used : List ℕ
  pub rest : List ℕ
  pub closed : List (List ℕ)
  pub last : List ℕ
  pub whole : used ++ rest ≡ l
  pub stands : LineStateAt s (closed, last)
  pub words_are : filter has_bytes (closed ++ last ∷ []) ≡ words used
  pub enough : begins_comment (words used) ≡ false → rest ≡ []

-- the byte is neither a blank nor LF
abbrev pub is_clear : ℕ → Bool
is_clear b = not (is_blank b) && not (is_line_feed b)

-- the byte is not LF
abbrev pub is_inner : ℕ → Bool
is_inner b = not (is_line_feed b)

-- a line without its LF, and whether an LF has ended it
pub record LineSoFar : Type 0 where
  pub bytes : List ℕ
  pub ended : Bool

-- the reader represents this line
pub record LineReaderAt (r : LineReader) (l : LineSoFar) : Type 0 where
  pub tells : HasWordsOf r.line l.bytes
  pub goes_on : l.ended ≡ false → Reached r.line l.bytes
  pub pending_is : r.pending ≡ (not l.ended && has_bytes l.bytes)

-- `Is` holds of every line that the reader represents
abbrev pub OfLine : LineReader → (LineSoFar → Type 0) → Type 0
OfLine r Is = (l : LineSoFar) → LineReaderAt r l → Is l

-- `Is` holds of the bytes of any line without an end that the reader represents
abbrev pub OfOpenLine : LineReader → (LineSoFar → Type 0) → Type 0
OfOpenLine r Is =
    (bytes : List ℕ) → LineReaderAt r (record { bytes = bytes; ended = false })
    → Is (record { bytes = bytes; ended = false })

-- the new reader represents the line of the old one, if this had not ended, with these bytes more
abbrev pub GrowsLine : LineReader → LineReader → List ℕ → Bool → Type 0
GrowsLine old new more ended =
    (l : LineSoFar) → l.ended ≡ false → LineReaderAt old l
    → LineReaderAt new (record { bytes = l.bytes ++ more; ended = ended })

-- the piece has an LF
abbrev pub has_end : List ℕ → Bool
has_end piece = nat_lt (position_or_len is_line_feed piece) (length piece)

-- the count of bytes that a step uses: up to and including the first LF, or all
abbrev pub used_of : List ℕ → ℕ
used_of piece = position_or_len is_line_feed piece + cond (has_end piece) 1 0

-- the line extended by the piece up to its first LF, or a new line if the earlier line has ended
abbrev pub line_after : LineSoFar → List ℕ → LineSoFar
line_after l [] = l
line_after l (b ∷ bs) =
    record { bytes = cond l.ended [] l.bytes ++ before_first is_line_feed (b ∷ bs); ended = has_end (b ∷ bs) }

-- the last of the lines that LFs ended, or none
abbrev pub last_ended : List (List ℕ) → LineSoFar
last_ended [] = record { bytes = []; ended = false }
last_ended (l ∷ []) = record { bytes = l; ended = true }
last_ended (l ∷ k ∷ ks) = last_ended (k ∷ ks)

-- the line that may continue, or the last ended line if it has no bytes
abbrev pub last_of : List (List ℕ) → List ℕ → LineSoFar
last_of ls [] = last_ended ls
last_of ls (b ∷ bs) = record { bytes = b ∷ bs; ended = false }

-- the line that a reader represents after the bytes of a text
abbrev pub last_line : List ℕ → LineSoFar
last_line t = last_of (parts is_line_feed t).0 (parts is_line_feed t).1
