-- The marks of bytes that are not digits, and the ends of numbers in them.
use Rattle.std.proofs.Common.{inl, inr, get_or, ◌≡◌, ℕ, ◌+◌, ◌-◌, ◌*◌, ◌%◌, ◌^◌, ◌<◌, ◌≤◌, List, [], ◌∷◌, Bool, cond, zero, suc, refl, ap, sym, ◌∙◌, arith, length, map, take, drop, w8, ltb, bit_and, pow-suc}
use lib.Count.{count_trailing_zeros}
use lib.Lanes.{zip2, mask_l, top, Each1}
use Rattle.std.specs.Prelude.{replicate}
use Rattle.std.specs.List.{prefix_len}
use Rattle.std.proofs.lemmas.Bool.{cases_Bool}
use Rattle.std.proofs.lemmas.Bool.Decides.{nat_tests}
use Rattle.std.proofs.lemmas.Nat.{and_block, and_mask, pow_pos, pow-add}
use Rattle.std.proofs.lemmas.Simd.{chunk-fits, below_from_Fits, length-chunk, zip2_splat, zip2_splat_left, bitmask_splat, map-map}
use Rattle.std.proofs.lemmas.List.{length-map, length-drop}
use mir.Val.{Fits}
use Rattle.std.specs.Int.Bits.{and_self}
use Rattle.std.specs.Int.Count.{trailing_of_zero}
use Rattle.std.proofs.Math.Nat.{mod_self}
use Rattle.dn_num.specs.declared.mask.Marks.{Marks}
use Rattle.dn_num.proofs.ZeroLaws.{shifted, odd_step}
use Rattle.dn_num.specs.Number.{is_digit}
use Rattle.dn_num.specs.State.Marks.{is_other, AreMarks}

-- ---- the mask of 32 bytes

-- tests that agree on each element have the same results
same_map : (p q : ℕ → Bool) (xs : List ℕ) → Each1 (λ x. p x ≡ q x) xs → map p xs ≡ map q xs
same_map p q [] h = refl
same_map p q (x ∷ xs) h = rw (h.0, same_map p q xs h.1)

-- less 48, modulo 256, a byte is above 9 if it is not a digit
others : (xs : List ℕ) → Each1 (λ x. x < 256) xs → Each1 (λ x. ltb 9 ((x + 208) % 256) ≡ is_other x) xs
others [] h = tt
others (x ∷ xs) h = (let e = h.0 in grind (arith, nat_tests), others xs h.1)

-- the mask that is computed of these bytes
abbrev pub mask : List ℕ → ℕ
mask xs = mask_l (map (top 7) (zip2 (λ a b. cond (ltb a b) 255 0) (replicate 32 9)
    (zip2 (λ a b. (a + (256 - b)) % 256) xs (replicate 32 48)))) % 2 ^ 64

pub others_mask : (xs : List ℕ) → length xs ≡ 32 → Each1 (λ x. x < 256) xs → mask xs ≡ mask_l (map is_other xs)
others_mask xs h small =
    let ds : List ℕ = map (λ x. (x + 208) % 256) xs in
    let long : length ds ≡ 32 = length-map xs (λ x. (x + 208) % 256) ∙ h in
    let f : ℕ → ℕ → ℕ = λ a b. cond (ltb a b) 255 0 in
    let g : ℕ → ℕ → ℕ = λ a b. cond (ltb b a) 255 0 in
    rw (
      zip2_splat (λ a b. (a + (256 - b)) % 256) xs 32 48 h,
      zip2_splat_left f 9 32 ds long,
      ← zip2_splat g ds 32 9 long,
    )
    (bitmask_splat w8 (λ a b. ltb b a) ds 32 9 long (omega arith)
    ∙ ap mask_l (map-map (λ x. ltb 9 x) (λ x. (x + 208) % 256) xs)
    ∙ ap mask_l (same_map (λ x. ltb 9 ((x + 208) % 256)) is_other xs (others xs small)))

-- ---- the first number in a mask

-- if all bytes are digits, their mask is 0. Else its lowest bit is that of the byte after the first digits, and the
-- bits of the following bytes come after it
pub data Front (xs : List ℕ) : Type 0 where
  None : mask_l (map is_other xs) ≡ 0 → Front xs
  Ends : prefix_len is_digit xs < length xs
      → mask_l (map is_other xs) ≡ 2 ^ prefix_len is_digit xs *
      (1 + 2 * mask_l (map is_other (drop (prefix_len is_digit xs + 1) xs)))
      → Front xs

-- one more digit in front
longer : (m r : ℕ) → 0 + 2 * (2 ^ m * (1 + 2 * r)) ≡ 2 ^ suc m * (1 + 2 * r)
longer m r = rw (pow-suc 2 m) (grind arith)

front_of : (xs : List ℕ) → Front xs
front_of [] = None refl
front_of (x ∷ xs) =
    elim (cases_Bool (is_digit x)) [
      | inl e ↦ elim (front_of xs) [
        | None z ↦ None (rw (e, z) (omega arith))
        | Ends l s ↦ (let one : 1 + prefix_len is_digit xs ≡ suc (prefix_len is_digit xs) = omega arith in
            let next : suc (prefix_len is_digit xs) + 1 ≡ suc (prefix_len is_digit xs + 1) = omega arith in
            Ends (rw (e, one) (omega (arith, l))) (rw (e, one, next, s) (longer (prefix_len is_digit xs) _)))
      ]
      | inr e ↦ Ends (rw e (omega arith)) (rw e (omega arith))
    ]

-- a mask and itself less 1 have all bits of the mask but the lowest
pub lowest_lost : (p r : ℕ) → bit_and (2 ^ p * (1 + 2 * r)) (2 ^ p * (1 + 2 * r) - 1) ≡ 2 ^ (p + 1) * r
lowest_lost p r =
    let more : 2 ^ (p + 1) ≡ 2 ^ p * 2 = pow-add 2 p 1 in
    let some : 0 < 2 ^ p = pow_pos p in
    let a : 2 ^ p * (1 + 2 * r) ≡ r * 2 ^ (p + 1) + 2 ^ p = rw more (grind arith) in
    let b : 2 ^ p * (1 + 2 * r) - 1 ≡ r * 2 ^ (p + 1) + (2 ^ p - 1) = omega (arith, a, some) in
    rw (b, a)
    (and_block (p + 1) r r (2 ^ p) (2 ^ p - 1) (omega (arith, more, some)) (omega (arith, more, some))
    ∙ rw (and_self r, and_mask (2 ^ p) p, mod_self (2 ^ p)) (grind arith))

-- the number of trailing zeros is the place of the lowest bit
zeros_at : (j r : ℕ) → j < 64 → count_trailing_zeros 64 (2 ^ j * (1 + 2 * r)) ≡ j
zeros_at j r h =
    let k : ℕ = 63 - j in
    let e : j + suc k ≡ 64 = omega arith in
    let odd : count_trailing_zeros (suc k) (1 + 2 * r) ≡ 0 = odd_step k (1 + 2 * r) (omega arith) in
    let all : count_trailing_zeros (j + suc k) (2 ^ j * (1 + 2 * r)) ≡ j =
    omega (arith, shifted j (suc k) (1 + 2 * r), odd) in
    rw e at all

take_nil : (k : ℕ) → take {A = ℕ} k [] ≡ []
take_nil zero = refl
take_nil (suc k) = refl

drop_take : (n k : ℕ) (xs : List ℕ) → drop n (take k xs) ≡ take (k - n) (drop n xs)
drop_take zero k xs = let e : k - 0 ≡ k = omega arith in rw e refl
drop_take (suc n) zero xs = let e : 0 - suc n ≡ 0 = omega arith in rw e refl
drop_take (suc n) (suc k) [] = sym (take_nil (suc k - suc n))
drop_take (suc n) (suc k) (x ∷ xs) = let e : suc k - suc n ≡ k - n = omega arith in rw e (drop_take n k xs)

length_take : (k : ℕ) (xs : List ℕ) → length (take k xs) ≤ k
length_take zero xs = omega arith
length_take (suc k) [] = omega arith
length_take (suc k) (x ∷ xs) = omega (arith, length_take k xs)

-- the first mask marks the first 32 bytes
pub marks_are : (bytes : List ℕ) → 32 ≤ length bytes → ((k : ℕ) → Fits w8 (get_or bytes k 0))
    → mask (take 32 bytes) ≡ 2 ^ 0 * mask_l (map is_other (take (32 - 0) bytes))
marks_are bytes h fit =
    others_mask (take 32 bytes) (length-chunk 0 32 bytes h)
    (below_from_Fits w8 (take 32 bytes) (chunk-fits w8 0 32 bytes fit))
    ∙ omega arith

-- what holds if the lowest bit of a mask is this many places above the first
pub record Found (bytes : List ℕ) (m : Marks) (used : ℕ) : Type 0 where
  pub end : count_trailing_zeros 64 m.others ≡ m.from + used
  pub count : used ≡ prefix_len is_digit (take (32 - m.from) bytes)
  pub room : m.from + used + 1 ≤ 32
  pub bits : bit_and m.others ((m.others + (2 ^ 64 - 1)) % 2 ^ 64)
      ≡ 2 ^ (m.from + used + 1) * mask_l (map is_other (take (32 - (m.from + used + 1)) (drop (used + 1) bytes)))

pub found : (bytes : List ℕ) (m : Marks) (used : ℕ) → AreMarks bytes m → m.others < 2 ^ 64
    → m.from ≤ 23 → used ≡ (count_trailing_zeros 64 m.others + (2 ^ 64 - m.from)) % 2 ^ 64 → used ≤ 8
    → Found bytes m used
found bytes m used a fits few is most =
    let xs : List ℕ = take (32 - m.from) bytes in
    elim (front_of xs) [
      | None z ↦ (let e : m.others ≡ 0 = a.bits ∙ rw z (omega arith) in
          let f : count_trailing_zeros 64 m.others ≡ 64 = rw e (trailing_of_zero 64) in absurd (omega arith))
      | Ends l s ↦ (let p : ℕ = prefix_len is_digit xs in
          let r : ℕ = mask_l (map is_other (drop (p + 1) xs)) in
          let j : ℕ = m.from + p in
          let e : m.others ≡ 2 ^ j * (1 + 2 * r) = a.bits ∙ rw (s, pow-add 2 m.from p) (grind arith) in
          let within : j < 32 = omega (arith, l, length_take (32 - m.from) bytes) in
          let f : count_trailing_zeros 64 m.others ≡ j = rw e (zeros_at j r (omega arith)) in
          let same : used ≡ p = omega arith in
          let some : 0 < 2 ^ j = pow_pos j in
          let positive : 0 < m.others = rw e (mul_some (2 ^ j) (2 * r) some) in
          let less : (m.others + (2 ^ 64 - 1)) % 2 ^ 64 ≡ m.others - 1 = omega arith in
          let left : 32 - m.from - (p + 1) ≡ 32 - (m.from + p + 1) = omega arith in
          rw same
          (record {
            end = f;
            count = refl;
            room = omega arith;
            bits = rw (less, e) (lowest_lost j r ∙ rw (drop_take (p + 1) (32 - m.from) bytes, left));
          }))
    ]
  where
    mul_some : (a b : ℕ) → 0 < a → 0 < a * (1 + b)
    mul_some a b h = grind arith

-- the mask without its lowest bit marks the bytes after the number and one more byte
pub next_marks : (bytes : List ℕ) (m : Marks) (used : ℕ) → AreMarks bytes m → Found bytes m used
    → AreMarks (drop (used + 1) bytes) (record {
      others = bit_and m.others ((m.others + (2 ^ 64 - 1)) % 2 ^ 64);
      from = count_trailing_zeros 64 m.others + 1;
    })
next_marks bytes m used a f =
    record {
      within = omega (arith, f.end, f.room);
      room = omega (arith, f.end, length-drop (used + 1) bytes, a.room);
      bits = rw f.end f.bits;
    }

-- if the first digits of b bytes are at most a, they are those of the first a bytes
pub prefix_take : (a b : ℕ) (xs : List ℕ) → a ≤ b → prefix_len is_digit (take b xs) ≤ a
    → prefix_len is_digit (take b xs) ≡ prefix_len is_digit (take a xs)
prefix_take zero b xs h k = omega (arith, k)
prefix_take (suc a) zero xs h k = absurd (omega arith)
prefix_take (suc a) (suc b) [] h k = refl
prefix_take (suc a) (suc b) (x ∷ xs) h k =
    elim (cases_Bool (is_digit x)) [
      | inl e ↦ (let more : 1 + prefix_len is_digit (take b xs) ≤ suc a = rw e at k in
          rw e (ap (λ n. 1 + n) (prefix_take a b xs (omega arith) (omega (arith, more)))))
      | inr e ↦ rw e refl
    ]
