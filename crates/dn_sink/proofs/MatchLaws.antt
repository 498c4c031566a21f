-- Lemmas on bytes that are compared with a text.
use Rattle.std.proofs.Common.{◌≡◌, ◌≢◌, ℕ, ◌+◌, ◌<◌, ◌≤◌, List, [], ◌∷◌, ◌++◌, length, take, drop, get_or, Bool, true, false, Option, None, Some, refl, sym, ap, ◌∙◌, subst, arith, length-append, append-nil, append_assoc, take-append-drop}
use Rattle.std.proofs.Math.Seq.{take-add, take-suc}
use native.Mathlib.Numerals.{unary_clauses}
use Rattle.std.proofs.lemmas.List.{get_or_append_left, length-take-le, take_all, get_or-take}
use Rattle.std.specs.Option.{is_some}
use Rattle.dn_sink.specs.State.Matches.{AreMatched, IsNoPrefix, IsSamePrefix, Matched, put_by, taken_of}

-- if a byte does not match, the bytes put are not the text
pub other_than_text : (text : List ℕ) (matched : ℕ) (other : Option ℕ) (failed : Bool)
    → AreMatched text matched other failed → is_some other ≡ true → put_by text matched other ≢ text
other_than_text text matched None failed h is e = cc
other_than_text text matched (Some byte) failed h is e = h.apart [] (append-nil _ ∙ e)

-- if a byte does not match, the bytes put are not a prefix of the text
pub no_prefix : (text : List ℕ) (matched : ℕ) (other : Option ℕ) (failed : Bool) → AreMatched text matched other failed
    → is_some other ≡ true → IsNoPrefix (put_by text matched other) text
no_prefix text matched None failed h is = cc
no_prefix text matched (Some byte) failed h is = h.apart

-- if all bytes match, the bytes put are a prefix of the text
pub a_prefix : (text : List ℕ) (matched : ℕ) (other : Option ℕ) → is_some other ≡ false
    → IsNoPrefix (put_by text matched other) text → ⊥
a_prefix text matched None is never = never (drop matched text) (take-append-drop matched text)
a_prefix text matched (Some byte) is never = cc

-- if all bytes match, the bytes put are the first `matched` bytes of the text
pub taken_so_far : (text : List ℕ) (matched : ℕ) (other : Option ℕ) → is_some other ≡ false
    → put_by text matched other ≡ take matched text
taken_so_far text matched None h = refl
taken_so_far text matched (Some byte) h = cc

-- if a text begins with the whole piece, that is the longest common prefix
pub whole_piece : (text piece : List ℕ) → take (length piece) text ≡ piece → length piece ≤ length text
    → IsSamePrefix text piece (length piece)
whole_piece text piece e bound = record {
  in_text = bound;
  in_piece = omega arith;
  same = e ∙ sym (take_all (length piece) piece (omega arith));
  apart = λ below. absurd (omega arith);
}

one_more : (piece : List ℕ) (n : ℕ) → n < length piece → take (n + 1) piece ≡ take n piece ++ get_or piece n 0 ∷ []
one_more piece n inside = simp unary_clauses (take-suc piece n 0 inside)

-- the common prefix of the rest of a text and a piece extends the matched prefix of the text
pub put_same : (text piece : List ℕ) (at n : ℕ) → take n (drop at text) ≡ take n piece
    → take (at + n) text ≡ take at text ++ take n piece
put_same text piece at n same = take-add at n text ∙ ap (λ l. take at text ++ l) same

-- the common prefix and one byte of the piece after it extend the bytes put
pub put_other : (text piece : List ℕ) (at n byte : ℕ) → take n (drop at text) ≡ take n piece → n < length piece
    → byte ≡ get_or piece n 0
    → take (at + n) text ++ byte ∷ [] ≡ take at text ++ take (n + 1) piece
put_other text piece at n byte same inside is =
    ap (λ l. l ++ byte ∷ []) (put_same text piece at n same) ∙ append_assoc (take at text) (take n piece) (byte ∷ [])
    ∙ ap (λ l. take at text ++ l) (ap (λ b. take n piece ++ b ∷ []) is ∙ sym (one_more piece n inside))

-- putting a piece appends it to the bytes taken
pub taken_more : (m : Matched) (text put piece : List ℕ) → text ≡ m.text → put ≡ m.put ++ piece
    → length text ∷ (text ++ put) ≡ taken_of m ++ piece
taken_more m text put piece same more =
    ap (λ l. length text ∷ (text ++ l)) more ∙ ap (λ l. length l ∷ (l ++ (m.put ++ piece))) same
    ∙ ap (λ l. length m.text ∷ l) (sym (append_assoc m.text m.put piece))

-- if the text ends after n bytes or its next byte differs from the piece's, the first n + 1 bytes of the piece are not
-- a prefix of it
pub parted : (text piece : List ℕ) (n : ℕ) → n < length piece → ((n < length text) → get_or text n 0 ≢ get_or piece n 0)
    → IsNoPrefix (take (n + 1) piece) text
parted text piece n inside differs rest e =
    let long : length (take (n + 1) piece) ≡ n + 1 = length-take-le (n + 1) piece (omega (arith, inside)) in
    let within : n < length text =
    subst (λ t. n < length t) e (omega (arith, long, length-append (take (n + 1) piece) rest)) in
    differs within
    (ap (λ t. get_or t n 0) (sym e) ∙ get_or_append_left (take (n + 1) piece) rest 0 n (omega (arith, long))
    ∙ get_or-take (n + 1) piece n 0 (omega arith))
