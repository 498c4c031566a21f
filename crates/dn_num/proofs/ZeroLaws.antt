-- Zeros at the low end of a word.
use Rattle.std.proofs.Common.{inl, inr, ◌≡◌, ℕ, ◌+◌, ◌*◌, ◌/◌, ◌%◌, ◌^◌, ◌<◌, List, [], ◌∷◌, zero, suc, arith, length, pow-suc}
use lib.Count.{count_trailing_zeros}
use Rattle.std.specs.Simd.Lanes.{Each1, number_l}
use Rattle.std.proofs.lemmas.Bool.{cases_eq, ne_eqb}
use Rattle.dn_num.specs.State.Digits.{zeros_before}

even_step : (k n : ℕ) → count_trailing_zeros (suc k) (2 * n) ≡ suc (count_trailing_zeros k n)
unfolding count_trailing_zeros
even_step k n =
    let p : 2 * n % 2 ≡ 0 = omega arith in
    let q : 2 * n / 2 ≡ n = omega arith in
    rw (p, q)

pub odd_step : (k n : ℕ) → n % 2 ≡ 1 → count_trailing_zeros (suc k) n ≡ 0
unfolding count_trailing_zeros
odd_step k n p = rw p

doubled : (j n : ℕ) → 2 ^ suc j * n ≡ 2 * (2 ^ j * n)
doubled j n = rw (pow-suc 2 j) (omega arith)

-- multiplying by 2^j adds j trailing zeros
pub shifted : (j k n : ℕ) → count_trailing_zeros (j + k) (2 ^ j * n) ≡ j + count_trailing_zeros k n
shifted zero k n =
    let p : zero + k ≡ k = omega arith in
    let q : 2 ^ zero * n ≡ n = omega arith in
    rw (p, q) (omega arith)
shifted (suc j) k n =
    let p : suc j + k ≡ suc (j + k) = omega arith in
    rw (p, doubled j n, even_step (j + k) (2 ^ j * n), shifted j k n) (omega arith)

-- a nonzero number below 2^j leaves fewer than j trailing zeros
set_below : (j k x n : ℕ) → 0 < x → x < 2 ^ j → count_trailing_zeros (j + k) (x + 2 ^ j * n) < j
set_below zero k x n h i = absurd (omega arith)
set_below (suc j) k x n h i =
    let p : suc j + k ≡ suc (j + k) = omega arith in
    let bound : x < 2 ^ j * 2 = rw (pow-suc 2 j) at i in
    rw (p, doubled j n)
    (elim (cases_eq (x % 2) 0) [
      | inl e ↦ (let half : x + 2 * (2 ^ j * n) ≡ 2 * (x / 2 + 2 ^ j * n) = omega arith in
          rw (half, even_step (j + k) (x / 2 + 2 ^ j * n))
          (omega (arith, set_below j k (x / 2) n (omega arith) (omega arith))))
      | inr e ↦ rw (odd_step (j + k) (x + 2 * (2 ^ j * n)) (omega arith)) (omega arith)
    ])

-- the list with 1 added to its last lane
abbrev topped : List ℕ → List ℕ
topped [] = []
topped (d ∷ []) = (d + 1) ∷ []
topped (d ∷ e ∷ ds) = d ∷ topped (e ∷ ds)

-- the trailing zeros of the word, in lanes, are the leading zeros of its digits
zero_lanes : (k d : ℕ) (ds : List ℕ) → Each1 (λ x. x < 10) (d ∷ ds)
    → count_trailing_zeros (8 * length (d ∷ ds) + k) (number_l 256 (topped (d ∷ ds))) / 8 ≡ zeros_before (d ∷ ds)
zero_lanes k d [] h = omega (arith, set_below 8 k (d + 1) 0 (omega arith) (omega (arith, h.0)))
zero_lanes k zero (e ∷ ds) h =
    let n : ℕ = number_l 256 (topped (e ∷ ds)) in
    let p : 8 * length (zero ∷ e ∷ ds) + k ≡ 8 + (8 * length (e ∷ ds) + k) = omega arith in
    let q : zero + 256 * n ≡ 256 * n = omega arith in
    rw (p, q, shifted 8 (8 * length (e ∷ ds) + k) n) (omega (arith, zero_lanes k e ds h.1))
zero_lanes k (suc d) (e ∷ ds) h =
    let n : ℕ = number_l 256 (topped (e ∷ ds)) in
    let p : 8 * length (suc d ∷ e ∷ ds) + k ≡ 8 + (8 * length (e ∷ ds) + k) = omega arith in
    rw (p, ne_eqb (suc d) 0 (λ q. omega arith))
    (omega (arith, set_below 8 (8 * length (e ∷ ds) + k) (suc d) n (omega arith) (omega (arith, h.0))))

pub zeros_are : (w a b c d e f g h : ℕ) → Each1 (λ x. x < 10) (a ∷ b ∷ c ∷ d ∷ e ∷ f ∷ g ∷ h ∷ [])
    → w ≡ number_l 256 (a ∷ b ∷ c ∷ d ∷ e ∷ f ∷ g ∷ h ∷ [])
    → count_trailing_zeros 64 ((w + 72057594037927936) % 2 ^ 64) / 8 ≡ zeros_before (a ∷ b ∷ c ∷ d ∷ e ∷ f ∷ g ∷ h ∷ [])
zeros_are w a b c d e f g h few is =
    let top : (w + 72057594037927936) % 2 ^ 64 ≡ number_l 256 (topped (a ∷ b ∷ c ∷ d ∷ e ∷ f ∷ g ∷ h ∷ [])) =
    omega arith in
    rw top (zero_lanes 0 a (b ∷ c ∷ d ∷ e ∷ f ∷ g ∷ h ∷ []) few)
