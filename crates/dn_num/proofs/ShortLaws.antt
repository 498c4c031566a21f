-- Short numbers.
use Rattle.std.proofs.Common.{inl, inr, ◌≡◌, ℕ, ◌+◌, ◌-◌, ◌*◌, ◌%◌, ◌^◌, ◌<◌, ◌≤◌, List, [], ◌∷◌, ◌++◌, zero, suc, true, false, refl, sym, ◌∙◌, arith, length, length-append, map, take, pos, Ok, mod-eq_of_lt, mul-one, zero-add, mul-le-mul_right, pow-suc, zero-mul, lit<}
use Rattle.std.proofs.lemmas.Nat.{shl-shr, mod-pow-add, pow_pos, pow-add}
use Rattle.std.proofs.lemmas.Bool.Decides.{nat_tests}
use Rattle.std.proofs.lemmas.List.{length-map, length-take, length-take-le, take-take}
use Rattle.std.proofs.lemmas.Simd.{length-replicate, Each1-replicate, Each1-weaker}
use Rattle.std.specs.List.{list_all, prefix_len}
use Rattle.std.specs.Prelude.{replicate}
use Rattle.std.specs.Simd.Lanes.{Each1, number_l}
use Rattle.std.proofs.Math.Nat.{mul-mod_left}
use Rattle.std.proofs.lemmas.Bool.{cases_Bool}
use Rattle.dn_num.specs.Number.{is_digit, digits_number, number_read}
use Rattle.dn_num.specs.State.NumberReader.{digits_state, state_read}
use Rattle.dn_num.proofs.FrontLaws.{digits_front_read}
use Rattle.dn_num.specs.State.Lanes.{OfBytes, places}
use Rattle.dn_num.proofs.LaneLaws.{low, high}

-- a word modulo 2^(8n) keeps its lowest n lanes
lower : (n : ℕ) (bs : List ℕ) → Each1 (λ b. b < 256) bs → number_l 256 bs % 2 ^ (8 * n) ≡ number_l 256 (take n bs)
lower zero bs h = omega arith
lower (suc n) [] h = mod-eq_of_lt (pow_pos (8 * suc n))
lower (suc n) (b ∷ bs) h =
    let rest : ℕ = number_l 256 bs in
    let more : 8 * suc n ≡ 8 * n + 8 = omega arith in
    rw (more, mod-pow-add (b + 256 * rest) (8 * n) 8, high 8 b rest h.0, low 8 b rest h.0, lower n bs h.1) (omega arith)

shifted : (a j k : ℕ) → a * 2 ^ k % 2 ^ (j + k) ≡ a % 2 ^ j * 2 ^ k
shifted a j k = rw (mod-pow-add (a * 2 ^ k) j k, shl-shr a k, mul-mod_left a (2 ^ k)) (omega arith)

-- zeros below lanes shift them
zeros_below : (m : ℕ) (xs : List ℕ) → number_l 256 (replicate m 0 ++ xs) ≡ number_l 256 xs * 2 ^ (8 * m)
zeros_below zero xs = sym (mul-one (number_l 256 xs))
zeros_below (suc m) xs =
    let more : 8 * suc m ≡ 8 * m + 8 = omega arith in
    rw (more, pow-add 2 (8 * m) 8, zeros_below m xs) (grind arith)

-- shifting a word left moves its first n lanes to the top
pub first_lanes : (w n : ℕ) (bs : List ℕ) → n ≤ 8 → Each1 (λ b. b < 256) bs → w ≡ number_l 256 bs
    → w * 2 ^ (64 - 8 * n) % 2 ^ 64 ≡ number_l 256 (replicate (8 - n) 0 ++ take n bs)
first_lanes w n bs k h e =
    let shift : 64 - 8 * n ≡ 8 * (8 - n) = omega arith in
    let room : 8 * n + 8 * (8 - n) ≡ 64 = omega arith in
    rw (e, shift, zeros_below (8 - n) (take n bs), ← lower n bs h)
    (rw room at (shifted (number_l 256 bs) (8 * n) (8 * (8 - n))))

-- ---- the digits, with zeros before them

each_append : (P : ℕ → Type 0) (xs ys : List ℕ) → Each1 P xs → Each1 P ys → Each1 P (xs ++ ys)
each_append P [] ys h k = k
each_append P (x ∷ xs) ys h k = (h.0, each_append P xs ys h.1 k)

-- the bytes that `prefix_len is_digit` counts are digits
pub counted : (xs : List ℕ) → Each1 (λ d. is_digit d ≡ true) (take (prefix_len is_digit xs) xs)
counted [] = tt
counted (x ∷ xs) =
    let one : 1 + prefix_len is_digit xs ≡ suc (prefix_len is_digit xs) = omega arith in
    elim (cases_Bool (is_digit x)) [ inl e ↦ rw (e, one) (e, counted xs) | inr e ↦ rw e tt ]

listed : (ds : List ℕ) → Each1 (λ d. is_digit d ≡ true) ds → list_all is_digit ds ≡ true
listed [] h = refl
listed (d ∷ ds) h = rw h.0 (listed ds h.1)

digit_value : (d : ℕ) → is_digit d ≡ true → d % 16 ≡ d - 48
digit_value d h = grind (arith, nat_tests)

places_digits : (ds : List ℕ) → Each1 (λ d. is_digit d ≡ true) ds → places (map (λ d. d % 16) ds) ≡ digits_number ds
places_digits [] h = refl
places_digits (d ∷ ds) h = rw (length-map ds (λ d. d % 16), digit_value d h.0, places_digits ds h.1)

places_zeros : (k : ℕ) (ds : List ℕ) → places (map (λ d. d % 16) (replicate k 0 ++ ds)) ≡ places (map (λ d. d % 16) ds)
places_zeros zero ds = refl
places_zeros (suc k) ds = rw (zero-mul, zero-add) (places_zeros k ds)

places_lt : (ds : List ℕ) → Each1 (λ d. d % 16 < 10) ds → places (map (λ d. d % 16) ds) < 10 ^ length ds
places_lt [] h = lit< tt
places_lt (d ∷ ds) h =
    let more : d % 16 * 10 ^ length ds ≤ 9 * 10 ^ length ds = mul-le-mul_right (10 ^ length ds) (omega (arith, h.0)) in
    rw (length-map ds (λ d. d % 16), pow-suc 10 (length ds)) (omega (arith, more, places_lt ds h.1))

short_read : (ds : List ℕ) (v : ℕ) → list_all is_digit ds ≡ true → v ≡ digits_number ds → v < 100000000
    → state_read (digits_state false ds) ≡ Ok (pos v)
short_read ds v h e k = rw (h, ← e) (grind (arith, nat_tests))

-- the value of a word whose higher lanes are the first n of these bytes, which are all digits

pub record Word (n : ℕ) (bs : List ℕ) (w v : ℕ) : Type 0 where
  pub long : length bs ≡ 8
  pub count : n ≡ prefix_len is_digit bs
  pub within : n ≤ 8
  pub word : w ≡ number_l 256 (replicate (8 - n) 0 ++ take n bs)
  pub value : OfBytes w (λ ds. Each1 (λ d. d % 16 < 10) ds → v ≡ places (map (λ d. d % 16) ds))

module _ {n : ℕ} {bs : List ℕ} {w v : ℕ} (h : Word n bs w v) where
  abbrev lanes : List ℕ
  lanes = replicate (8 - n) 0 ++ take n bs

  digits_of : Each1 (λ d. is_digit d ≡ true) (take n bs)
  digits_of = rw h.count (counted bs)

  each_lane : (P : ℕ → Type 0) → P 0 → ((d : ℕ) → is_digit d ≡ true → P d) → Each1 P lanes
  each_lane P z f =
      each_append P (replicate (8 - n) 0) (take n bs) (Each1-replicate P (8 - n) 0 z)
      (Each1-weaker (λ d. is_digit d ≡ true) P f (take n bs) digits_of)

  small : Each1 (λ d. d % 16 < 10) lanes
  small = each_lane (λ d. d % 16 < 10) (lit< tt) (λ d e. grind (arith, nat_tests))

  eight_long : length lanes ≡ 8
  eight_long =
      rw (length-append, length-replicate, length-take-le n bs (omega (arith, h.within, h.long)))
      (omega (arith, h.within))

  worth : v ≡ places (map (λ d. d % 16) lanes)
  worth = h.value lanes eight_long (each_lane (λ d. d < 256) (lit< tt) (λ d e. grind (arith, nat_tests))) h.word small

  pub word_bound : v < 100000000
  word_bound = rw worth (rw eight_long at (places_lt lanes small))

pub word_reads : (n : ℕ) (bytes : List ℕ) (w v : ℕ) → 0 < n → Word n (take 8 bytes) w v
    → number_read (take n bytes) ≡ Ok (pos v)
word_reads n bytes w v k h =
    let bs : List ℕ = take 8 bytes in
    let same = take-take n 8 bytes h.within in
    let all = rw same at (listed (take n bs) (digits_of h)) in
    let is = rw same at (worth h ∙ places_zeros (8 - n) (take n bs) ∙ places_digits (take n bs) (digits_of h)) in
    digits_front_read bytes n (pos v) k all (omega (arith, h.long, length-take 8 bytes))
    (short_read (take n bytes) v all is (word_bound h))
