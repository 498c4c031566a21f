-- Lemmas on building a line word by word.
use Rattle.std.proofs.Common.{arith, drop, suc, ◌≡◌, ℕ, ◌+◌, ℤ, List, [], ◌∷◌, ◌++◌, map, take, refl, ap, sym, append_assoc, append-nil, Some, slice_get}
use Rattle.std.specs.Fmt.{signed_decimal}
use Rattle.std.specs.List.{join_with_byte}
use Rattle.std.proofs.lemmas.List.{map-append, take_more}
use Rattle.std.proofs.Math.Seq.{drop-cons}
use Rattle.std.proofs.lemmas.Option.{slice_get_within, get_or_from_slice_get}
use Rattle.dn_sink.specs.Rows.{line_text}
use Rattle.dn_sink.specs.State.Spaced.{spaced}

-- joining words with spaces is the first word and each other after a space
pub joined_spaced : (w : List ℕ) (ws : List (List ℕ)) → join_with_byte 32 (w ∷ ws) ≡ w ++ spaced ws
joined_spaced w [] = sym (append-nil w)
joined_spaced w (v ∷ ws) = ap (λ l. w ++ (32 ∷ l)) (joined_spaced v ws)

spaced-append : (vs ws : List (List ℕ)) → spaced (vs ++ ws) ≡ spaced vs ++ spaced ws
spaced-append [] ws = refl
spaced-append (v ∷ vs) ws = rw (spaced-append vs ws, ← append_assoc (32 ∷ v) (spaced vs) (spaced ws))

-- appending a number extends the numbers of a line
pub number_more : {line next : List ℕ} {more : List ℤ} (start : List ℕ) (done : List ℤ) (n : ℤ)
    → line ≡ start ++ spaced (map signed_decimal done) → next ≡ line ++ 32 ∷ signed_decimal n → more ≡ done ++ n ∷ []
    → next ≡ start ++ spaced (map signed_decimal more)
number_more start done n e f g =
    let words = map signed_decimal done in
    rw (
      f,
      e,
      g,
      map-append signed_decimal done (n ∷ []),
      spaced-append words (signed_decimal n ∷ []),
      append-nil,
      append_assoc,
    )

-- a letter, all numbers and an LF are a whole line
pub line_added : {first numbers whole : List ℕ} (start : List ℕ) (letter : ℕ) (ns : List ℤ)
    → first ≡ start ++ letter ∷ [] → numbers ≡ first ++ spaced (map signed_decimal ns) → whole ≡ numbers ++ 10 ∷ []
    → whole ≡ start ++ line_text ((letter ∷ []) ∷ map signed_decimal ns)
line_added start letter ns e f g =
    rw (joined_spaced (letter ∷ []) (map signed_decimal ns)) (simp (g, f, e, append_assoc))

-- appending the next number of an arc extends its first numbers
pub part_more : (ns : List ℤ) (i : ℕ) (n m : ℤ) → slice_get ns i ≡ Some n → m ≡ n
    → take (i + 1) ns ≡ take i ns ++ m ∷ []
part_more ns i n m here is =
    rw (take_more ns i n (slice_get_within ns i n here), get_or_from_slice_get ns i n n here, is)

-- the nodes of a pair and more numbers are one list of numbers
pub pair_then : {tail head numbers : List ℕ} (first : List ℕ) (u v : ℤ) (ns : List ℤ)
    → tail ≡ first ++ 32 ∷ signed_decimal u → head ≡ tail ++ 32 ∷ signed_decimal v
    → numbers ≡ head ++ spaced (map signed_decimal ns) → numbers ≡ first ++ spaced (map signed_decimal (u ∷ v ∷ ns))
pair_then first u v ns e f g = simp (g, f, e, append_assoc)

-- the elements from position i on begin with the element at i
pub drop_get : {X : Type 0} (xs : List X) (i : ℕ) (x : X) → slice_get xs i ≡ Some x → drop i xs ≡ x ∷ drop (i + 1) xs
drop_get xs i x e =
    let next : i + 1 ≡ suc i = omega arith in
    rw (drop-cons xs i x (slice_get_within xs i x e), get_or_from_slice_get xs i x x e, next)
