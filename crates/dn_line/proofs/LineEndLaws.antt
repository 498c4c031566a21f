-- Where the first line of a piece ends.
use Rattle.std.proofs.Common.{◌≡◌, ℕ, ◌+◌, ◌≤◌, List, [], ◌∷◌, ◌++◌, true, not, ◌∙◌, arith, length, length-append, append-nil}
use Rattle.std.proofs.Math.Seq.{take-append-add}
use Rattle.std.proofs.lemmas.Bool.Decides.{nat_tests}
use Rattle.std.proofs.lemmas.Bool.{and_parts, not-true, lt-ltb}
use Rattle.std.proofs.lemmas.List.Sums.{prefix_len-le-length}
use Rattle.std.specs.List.{list_all, position_or_len, before_first}
use Rattle.dn_line.specs.Pieces.{is_line_feed}
use Rattle.dn_line.specs.State.LineStates.{is_inner, has_end, used_of}

-- the position of the first LF after bytes without LF
first_after : (used rest : List ℕ) → list_all is_inner used ≡ true
    → position_or_len is_line_feed (used ++ rest) ≡ length used + position_or_len is_line_feed rest
first_after [] rest h = omega arith
first_after (b ∷ used) rest h =
    let f = and_parts (is_inner b) (list_all is_inner used) h in
    rw (not-true (is_line_feed b) f.0) (omega (arith, first_after used rest f.1))

end_after : (used rest : List ℕ) → list_all is_inner used ≡ true → has_end (used ++ rest) ≡ has_end rest
end_after used rest h = rw (first_after used rest h, length-append) (grind (arith, nat_tests))

used_after : (used rest : List ℕ) → list_all is_inner used ≡ true → used_of (used ++ rest) ≡ length used + used_of rest
used_after used rest h = rw (end_after used rest h, first_after used rest h) (omega arith)

before_after : (used rest : List ℕ) → list_all is_inner used ≡ true
    → before_first is_line_feed (used ++ rest) ≡ used ++ before_first is_line_feed rest
before_after used rest h =
    rw (first_after used rest h) (take-append-add used rest (position_or_len is_line_feed rest))

end_here : (rest : List ℕ) → has_end (10 ∷ rest) ≡ true
end_here rest = lt-ltb 0 (length (10 ∷ rest)) (omega arith)

-- a step uses a line and the LF that ends it
pub line_used : (line rest : List ℕ) → list_all is_inner line ≡ true → used_of (line ++ 10 ∷ rest) ≡ length line + 1
line_used line rest h = used_after line (10 ∷ rest) h ∙ rw (end_here rest)

pub line_ends : (line rest : List ℕ) → list_all is_inner line ≡ true → has_end (line ++ 10 ∷ rest) ≡ true
line_ends line rest h = end_after line (10 ∷ rest) h ∙ end_here rest

pub line_before : (line rest : List ℕ) → list_all is_inner line ≡ true
    → before_first is_line_feed (line ++ 10 ∷ rest) ≡ line
line_before line rest h = before_after line (10 ∷ rest) h ∙ append-nil line

-- no step uses more than the piece
pub used_within : (piece : List ℕ) → used_of piece ≤ length piece
used_within piece = grind (arith, nat_tests, prefix_len-le-length (λ b. not (is_line_feed b)) piece)
