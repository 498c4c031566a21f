-- How many lanes are digits.
use Rattle.std.proofs.Common.{get_or, ◌≡◌, ℕ, ◌+◌, ◌-◌, ◌%◌, ◌^◌, ◌<◌, ◌≤◌, List, [], ◌∷◌, Bool, cond, not, refl, ap, sym, ◌∙◌, arith, length, map, w8, ltb}
use lib.Count.{count_trailing_zeros}
use lib.Lanes.{zip2, mask_l, top, Each1}
use Rattle.std.specs.Prelude.{replicate}
use Rattle.std.specs.List.{prefix_len}
use Rattle.std.proofs.lemmas.Bool.Decides.{nat_tests}
use Rattle.std.proofs.lemmas.Simd.{chunk-fits, below_from_Fits, length-chunk, zip2_splat, zip2_splat_left, bitmask_splat, leading_from_mask_l, trailing_mask_l, map-map, Each1-weaker}
use Rattle.std.proofs.lemmas.List.{length-map}
use mir.Val.{Fits}
use Rattle.std.specs.Simd.Lanes.{chunk}
use Rattle.std.proofs.lemmas.List.Sums.{prefix_len-le-length}
use Rattle.dn_num.specs.Number.{is_digit}

-- each lane minus 48, modulo 256
abbrev lessened : List ℕ → List ℕ
lessened xs = zip2 (λ a b. (a + (256 - b)) % 256) xs (replicate 8 48)

-- a lane is not a digit
abbrev pub is_other : ℕ → Bool
is_other x = ltb 9 ((x + 208) % 256)

-- the mask of the lanes that are not digits
abbrev mask : List ℕ → ℕ
mask xs = mask_l (map (top 7) (zip2 (λ a b. cond (ltb a b) 255 0) (replicate 8 9) (lessened xs))) % 2 ^ 64

others_mask : (xs : List ℕ) → length xs ≡ 8 → mask xs ≡ mask_l (map is_other xs)
others_mask xs h =
    let ds : List ℕ = map (λ x. (x + 208) % 256) xs in
    let long : length ds ≡ 8 = length-map xs (λ x. (x + 208) % 256) ∙ h in
    let f : ℕ → ℕ → ℕ = λ a b. cond (ltb a b) 255 0 in
    let g : ℕ → ℕ → ℕ = λ a b. cond (ltb b a) 255 0 in
    rw (zip2_splat (λ a b. (a + (256 - b)) % 256) xs 8 48 h, zip2_splat_left f 9 8 ds long, ← zip2_splat g ds 8 9 long)
    (bitmask_splat w8 (λ a b. ltb b a) ds 8 9 long (omega arith)
    ∙ ap mask_l (map-map (λ x. ltb 9 x) (λ x. (x + 208) % 256) xs))

same_prefix : (p q : ℕ → Bool) (xs : List ℕ) → Each1 (λ x. p x ≡ q x) xs → prefix_len p xs ≡ prefix_len q xs
same_prefix p q [] h = refl
same_prefix p q (x ∷ xs) h = rw (h.0, same_prefix p q xs h.1)

digits_prefix : (xs : List ℕ) → Each1 (λ x. x < 256) xs → prefix_len (λ x. not (is_other x)) xs ≡ prefix_len is_digit xs
digits_prefix xs h =
    same_prefix (λ x. not (is_other x)) is_digit xs
    (Each1-weaker (λ x. x < 256) (λ x. not (is_other x) ≡ is_digit x) (λ x e. grind (arith, nat_tests)) xs h)

module _ (at : ℕ) (bytes : List ℕ) (room : at + 8 ≤ length bytes) (fit : (k : ℕ) → Fits w8 (get_or bytes k 0)) where
  abbrev bs : List ℕ
  bs = chunk at 8 bytes

  long : length bs ≡ 8
  long = length-chunk at 8 bytes room

  same : prefix_len (λ x. not (is_other x)) bs ≡ prefix_len is_digit bs
  same = digits_prefix bs (below_from_Fits w8 bs (chunk-fits w8 at 8 bytes fit))

  pub all_digits : mask bs ≡ 0 → 8 ≡ prefix_len is_digit bs
  all_digits z = rw (← same, leading_from_mask_l is_other bs (rw (others_mask bs long) at z)) (sym long)

  pub some_digits : 0 < mask bs → count_trailing_zeros 64 (mask bs) ≡ prefix_len is_digit bs
  some_digits z =
      rw (others_mask bs long)
      (trailing_mask_l is_other 64 bs (omega (arith, long)) (omega (arith, others_mask bs long)) ∙ same)

  pub some_within : 0 < mask bs → count_trailing_zeros 64 (mask bs) ≤ 8
  some_within z = omega (arith, some_digits z, prefix_len-le-length is_digit bs, long)
