-- Lemmas on the complete lines of a text when a piece is appended.
use Rattle.std.proofs.Common.{◌≡◌, ℕ, ◌+◌, ◌-◌, List, [], ◌∷◌, ◌++◌, length, length-append, take, drop, take-append-drop, Bool, true, false, cond, not, ◌&&◌, refl, sym, ap, ◌∙◌, append-nil, append_assoc, arith, inl, inr, add-zero, take-add, take_all}
use Rattle.std.proofs.lemmas.Grind.{flat_map-append}
use Rattle.std.proofs.lemmas.Bool.{ltb-true, cases_Bool}
use Rattle.std.proofs.lemmas.List.{length-drop}
use Rattle.std.specs.List.{position_or_len, before_first, list_all}
use Rattle.dn_line.specs.Pieces.{parts, has_bytes, lines, is_line_feed}
use Rattle.dn_line.specs.State.LineStates.{LineSoFar, has_end, used_of, last_of, last_line, is_inner, if_any}
use Rattle.dn_line.proofs.PartsLaws.{Parts, parts_run, parts_end, parts_push}
use Rattle.dn_line.proofs.LineReaderLaws.{ended_push}
use Rattle.dn_line.proofs.LineEndLaws.{line_ends, line_before, line_used}
use Rattle.dn_instance.specs.Readers.{ended}
use Rattle.dn_instance.specs.State.ReaderStates.{open_of}
use Rattle.dn_instance.specs.State.TextsSoFar.{AreInner, closed_lines}

-- the line that an LF ends follows the lines before it
closes : (p : Parts) (ls : List (List ℕ)) (o : List ℕ) → p ≡ (ls ++ o ∷ [], [])
    → p.0 ≡ ls ++ (last_of p.0 p.1).bytes ∷ []
closes p ls o e = rw (e, ended_push ls o)

-- the first LF of a piece ends one more line
pub ends_at : (t piece : List ℕ) → has_end piece ≡ true → parts is_line_feed (t ++ take (used_of piece) piece) ≡
    (ended t ++ (open_of t ++ before_first is_line_feed piece) ∷ [], [])
ends_at t piece e =
    rw e (parts_end is_line_feed t piece (position_or_len is_line_feed piece) refl (ltb-true _ _ e)
    ∙ ap (λ (q : Parts). let r : Parts = (q.0 ++ q.1 ∷ [], []) in r) (parts_run is_line_feed t piece))

pub ended_then : (t piece : List ℕ) → has_end piece ≡ true
    → ended (t ++ take (used_of piece) piece) ≡ ended t ++ (last_line (t ++ take (used_of piece) piece)).bytes ∷ []
ended_then t piece e =
    closes (parts is_line_feed (t ++ take (used_of piece) piece)) (ended t)
    (open_of t ++ before_first is_line_feed piece) (ends_at t piece e)

pub goes_on : (t piece : List ℕ) → has_end piece ≡ false → ended (t ++ take (used_of piece) piece) ≡ ended t
goes_on t piece e = rw (e, add-zero) (ap (λ (q : Parts). q.0) (parts_run is_line_feed t piece))

-- the second list of lines begins with the first
pub record More (ls ms : List (List ℕ)) : Type 0 where
  pub rest : List (List ℕ)
  pub whole : ms ≡ ls ++ rest

one_byte : (t : List ℕ) (b : ℕ) → More (ended t) (ended (t ++ b ∷ []))
one_byte t b =
    let p = parts_push is_line_feed t b in
    elim (cases_Bool (is_line_feed b)) [
      | inl e ↦ record { rest = (parts is_line_feed t).1 ∷ []; whole = ap (λ (q : Parts). q.0) (rw e at p) }
      | inr e ↦ record { rest = []; whole = rw append-nil (ap (λ (q : Parts). q.0) (rw e at p)) }
    ]

pub ended_more : (t u : List ℕ) → More (ended t) (ended (t ++ u))
ended_more t [] = record { rest = []; whole = rw (append-nil t, append-nil (ended t)) }
ended_more t (b ∷ u) =
    let one = one_byte t b in
    let more = ended_more (t ++ b ∷ []) u in
    record {
      rest = one.rest ++ more.rest;
      whole = rw (← append_assoc t (b ∷ []) u, more.whole, one.whole) (append_assoc (ended t) one.rest more.rest);
    }

-- whether a text has a last line without an LF, given the line of the reader
pending_at : (x : Bool) (bytes o : List ℕ) → cond x [] bytes ≡ o → true ≡ (not x && has_bytes bytes)
    → if_any o ≡ bytes ∷ []
pending_at false (b ∷ bs) o e h = ap if_any (sym e)
pending_at _ _ o e h = cc

none_at : (x : Bool) (bytes o : List ℕ) → cond x [] bytes ≡ o → false ≡ (not x && has_bytes bytes) → o ≡ []
none_at false (b ∷ bs) o e h = cc
none_at _ _ o e h = sym e

pub with_last : (t : List ℕ) (l : LineSoFar) → cond l.ended [] l.bytes ≡ open_of t
    → true ≡ (not l.ended && has_bytes l.bytes) → lines t ≡ ended t ++ l.bytes ∷ []
with_last t l e h = rw (pending_at l.ended l.bytes (open_of t) e h)

pub none_open : (t : List ℕ) (l : LineSoFar) → cond l.ended [] l.bytes ≡ open_of t
    → false ≡ (not l.ended && has_bytes l.bytes) → open_of t ≡ []
none_open t l e h = none_at l.ended l.bytes (open_of t) e h

pub without_last : (t : List ℕ) → open_of t ≡ [] → lines t ≡ ended t
without_last t e = rw e (append-nil (ended t))

-- if no line is open, the first LF of a piece ends the first line of the piece
pub line_more : (t piece line rest : List ℕ) → open_of t ≡ [] → line ++ 10 ∷ rest ≡ piece
    → list_all is_inner line ≡ true → parts is_line_feed (t ++ take (used_of piece) piece) ≡ (ended t ++ line ∷ [], [])
line_more t piece line rest o e h =
    rw (ends_at t piece (rw (← e) (line_ends line rest h)), o, ← e, line_before line rest h)

-- if no line is open, lines with their LFs follow the complete lines
pub closed_more : (t : List ℕ) (more : List (List ℕ)) → open_of t ≡ [] → AreInner more
    → parts is_line_feed (t ++ closed_lines more) ≡ (ended t ++ more, [])
closed_more t [] o h = rw (append-nil t, append-nil (ended t), ← o)
closed_more t (l ∷ more) o h =
    let piece : List ℕ = l ++ 10 ∷ [] in
    let all : take (used_of piece) piece ≡ piece =
    take_all (used_of piece) piece (omega (arith, line_used l [] h.0, length-append l (10 ∷ []))) in
    let one : parts is_line_feed (t ++ piece) ≡ (ended t ++ l ∷ [], []) =
    rw all at (line_more t piece l [] o refl h.0) in
    ap (parts is_line_feed) (sym (append_assoc t piece (closed_lines more)))
    ∙ closed_more (t ++ piece) more (ap (λ (p : Parts). p.1) one) h.1
    ∙ ap (λ (x : List (List ℕ)). let p : Parts = (x, []) in p)
    (ap (λ x. x ++ more) (ap (λ (p : Parts). p.0) one) ∙ append_assoc (ended t) (l ∷ []) more)

pub lines_more : (t : List ℕ) → More (ended t) (lines t)
lines_more t = record { rest = if_any (parts is_line_feed t).1; whole = refl }

-- the bytes of a piece from position i on
abbrev pub rest_of : List ℕ → ℕ → List ℕ
rest_of p i = take (length p - i) (drop i p)

pub rest_is : (p : List ℕ) (i : ℕ) → rest_of p i ≡ drop i p
rest_is p i = take_all (length p - i) (drop i p) (omega (arith, length-drop i p))

pub rest_len : (p : List ℕ) (i : ℕ) → length (rest_of p i) ≡ length p - i
rest_len p i = rw rest_is (length-drop i p)

-- the first i bytes of a piece and the next n bytes are its first i + n bytes
pub step_on : (t p : List ℕ) (i n : ℕ) → (t ++ take i p) ++ take n (rest_of p i) ≡ t ++ take (i + n) p
step_on t p i n = rw (rest_is p i, append_assoc t (take i p), take-add i n p)

pub whole_of : (t p : List ℕ) (j : ℕ) → t ++ p ≡ (t ++ take j p) ++ drop j p
whole_of t p j = rw (append_assoc t (take j p), take-append-drop j p)

-- the lines with their LFs, and one more
pub closed_push : (ls : List (List ℕ)) (l : List ℕ) → closed_lines (ls ++ l ∷ []) ≡ closed_lines ls ++ (l ++ 10 ∷ [])
closed_push ls l = rw (flat_map-append _ ls (l ∷ []), append-nil)

pub inner_push : (ls : List (List ℕ)) (l : List ℕ) → AreInner ls → list_all is_inner l ≡ true → AreInner (ls ++ l ∷ [])
inner_push [] l h i = (i, tt)
inner_push (m ∷ ls) l h i = (h.0, inner_push ls l h.1 i)
