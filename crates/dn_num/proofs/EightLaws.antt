-- The table of the four digits of each number.
use Rattle.std.proofs.Common.{◌≡◌, ℕ, zero, suc, ◌+◌, ◌-◌, ◌*◌, ◌/◌, ◌%◌, ◌^◌, ◌<◌, ◌≤◌, Bool, true, ◌&&◌, T, eqb, List, [], ◌∷◌, length, refl, arith, eqb→eq}
use lib.Ieee.Fits.{and_l, and_r}
use Rattle.std.specs.Simd.Lanes.{Each1, number_l, chunk}
use Rattle.dn_num.specs.State.Digits.{four_digits, codes_of}

-- these bytes are the digits of i, of the next number and so on, four of each
abbrev pub are_fours : ℕ → List ℕ → Bool
are_fours i (a ∷ b ∷ c ∷ d ∷ xs) =
    ((eqb a (i / 100 / 10 + 48) && eqb b (i / 100 % 10 + 48)) &&
    (eqb c (i % 100 / 10 + 48) && eqb d (i % 100 % 10 + 48)))
    && are_fours (suc i) xs
are_fours i _ = true

-- in such bytes from i on, the four bytes at the place n are the digits of i + n
four_at : (n i : ℕ) (xs : List ℕ) → T (are_fours i xs) → n * 4 + 4 ≤ length xs
    → chunk (n * 4) 4 xs ≡ codes_of (four_digits (i + n))
four_at zero i (a ∷ b ∷ c ∷ d ∷ xs) t h =
    let all = and_l _ (are_fours (suc i) xs) t in
    let front : T (eqb a (i / 100 / 10 + 48) && eqb b (i / 100 % 10 + 48)) = and_l _ _ all in
    let back : T (eqb c (i % 100 / 10 + 48) && eqb d (i % 100 % 10 + 48)) =
    and_r (eqb a (i / 100 / 10 + 48) && eqb b (i / 100 % 10 + 48)) _ all in
    let e : i + 0 ≡ i = omega arith in
    let p : a ≡ i / 100 / 10 + 48 = eqb→eq _ _ (and_l _ _ front) in
    let q : b ≡ i / 100 % 10 + 48 = eqb→eq _ _ (and_r (eqb a (i / 100 / 10 + 48)) _ front) in
    let r : c ≡ i % 100 / 10 + 48 = eqb→eq _ _ (and_l _ _ back) in
    let s : d ≡ i % 100 % 10 + 48 = eqb→eq _ _ (and_r (eqb c (i % 100 / 10 + 48)) _ back) in rw (e, p, q, r, s) refl
four_at (suc n) i (a ∷ b ∷ c ∷ d ∷ xs) t h =
    let next = four_at n (suc i) xs (and_r _ (are_fours (suc i) xs) t) (omega arith) in
    let e : i + suc n ≡ suc i + n = omega arith in
    let p : suc n * 4 ≡ suc (suc (suc (suc (n * 4)))) = omega arith in
    rw (e, p) next
four_at n i _ t h = absurd (omega arith)

-- in a table of the digits of 0, 1 and so on, the four bytes at a number are the character codes of its digits
pub table_at : (n : ℕ) (table : List ℕ) → T (are_fours 0 table) → n * 4 + 4 ≤ length table
    → chunk (n * 4) 4 table ≡ codes_of (four_digits n)
table_at n table t h = let e : 0 + n ≡ n = omega arith in rw e at (four_at n 0 table t h)

-- the values of eight digits are their character codes less 48 each
pub values_are : (w : ℕ) (ds : List ℕ) → length ds ≡ 8 → Each1 (λ d. d < 10) ds → w ≡ number_l 256 (codes_of ds)
    → (w + (2 ^ 64 - 3472328296227680304)) % 2 ^ 64 ≡ number_l 256 ds
values_are w (a ∷ b ∷ c ∷ d ∷ e ∷ f ∷ g ∷ h ∷ []) n few is = omega arith
values_are w _ n few is = absurd (omega arith)
