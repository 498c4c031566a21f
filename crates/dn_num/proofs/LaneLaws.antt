-- Arithmetic on words of lanes.
use Rattle.std.proofs.Common.{◌≡◌, ℕ, ◌+◌, ◌-◌, ◌*◌, ◌/◌, ◌%◌, ◌^◌, ◌<◌, List, [], ◌∷◌, refl, ap, sym, ◌∙◌, arith, length, map, bit_and, lit<}
use Rattle.std.proofs.lemmas.Nat.{and_block, and_mask, div-mul-add, mod-mul-add}
use Rattle.std.specs.Prelude.{replicate}
use Rattle.std.specs.Simd.Lanes.{Each1, number_l}
use Rattle.dn_num.specs.State.Lanes.{OfBytes, OfDigits, OfPairs, joined, places}

front : (k x X : ℕ) → x + 2 ^ k * X ≡ X * 2 ^ k + x
front k x X = omega arith

pub low : (k x X : ℕ) → x < 2 ^ k → (x + 2 ^ k * X) % 2 ^ k ≡ x
low k x X h = rw (front k x X) (mod-mul-add X (2 ^ k) x h)

pub high : (k x X : ℕ) → x < 2 ^ k → (x + 2 ^ k * X) / 2 ^ k ≡ X
high k x X h = rw (front k x X) (div-mul-add X (2 ^ k) x h)

-- a bitwise and with the same mask in each lane masks each lane
pub and_lanes : (k m : ℕ) (xs : List ℕ) → Each1 (λ x. x < 2 ^ k) xs → m < 2 ^ k
    → bit_and (number_l (2 ^ k) xs) (number_l (2 ^ k) (replicate (length xs) m)) ≡ number_l (2 ^ k)
    (map (λ x. bit_and x m) xs)
and_lanes k m [] h g = refl
and_lanes k m (x ∷ xs) h g =
    let rest : ℕ = number_l (2 ^ k) xs in
    let mask : ℕ = number_l (2 ^ k) (replicate (length xs) m) in
    rw (front k x rest, front k m mask)
    (and_block k rest mask x m h.0 g ∙ sym (front k (bit_and x m) (bit_and rest mask)) ∙ rw (and_lanes k m xs h.1 g))

pub masks : (j : ℕ) (xs : List ℕ) → map (λ x. bit_and x (2 ^ j - 1)) xs ≡ map (λ x. x % 2 ^ j) xs
masks j [] = refl
masks j (x ∷ xs) = rw (and_mask x j, masks j xs)

-- a mask keeps the lower half of each byte
pub low_halves : (w : ℕ) (ds : List ℕ) → length ds ≡ 8 → Each1 (λ d. d < 256) ds → w ≡ number_l 256 ds
    → bit_and w 0x0F0F0F0F0F0F0F0F ≡ number_l 256 (map (λ d. d % 16) ds)
low_halves w ds n h e = rw e (rw (n, masks 4 ds) at (and_lanes 8 15 ds h (lit< tt)))

-- joining two lanes of digits makes one lane of twice as many bits
pub pairs_are : (w a b c d e f g h : ℕ) → Each1 (λ x. x < 10) (a ∷ b ∷ c ∷ d ∷ e ∷ f ∷ g ∷ h ∷ [])
    → w ≡ number_l 256 (a ∷ b ∷ c ∷ d ∷ e ∷ f ∷ g ∷ h ∷ [])
    → bit_and (((w * 10) % 2 ^ 64 + w / 2 ^ 8) % 2 ^ 64) 0x00FF00FF00FF00FF ≡ number_l 65536
    ((a * 10 + b) ∷ (c * 10 + d) ∷ (e * 10 + f) ∷ (g * 10 + h) ∷ [])
pairs_are w a b c d e f g h few is =
    let s1 : ℕ = a * 10 + b + 256 * (b * 10 + c) in
    let s2 : ℕ = c * 10 + d + 256 * (d * 10 + e) in
    let s3 : ℕ = e * 10 + f + 256 * (f * 10 + g) in
    let s4 : ℕ = g * 10 + h + 256 * (h * 10) in
    let sums : List ℕ = s1 ∷ s2 ∷ s3 ∷ s4 ∷ [] in
    let half : w / 2 ^ 8 ≡ b + 256 * (c + 256 * (d + 256 * (e + 256 * (f + 256 * (g + 256 * (h + 0)))))) =
    rw is (high 8 a (b + 256 * (c + 256 * (d + 256 * (e + 256 * (f + 256 * (g + 256 * (h + 0))))))) (omega arith)) in
    let sum : ((w * 10) % 2 ^ 64 + w / 2 ^ 8) % 2 ^ 64 ≡ number_l 65536 sums = omega arith in
    rw sum
    (and_lanes 16 255 sums (omega arith) (lit< tt) ∙ ap (number_l 65536) (masks 8 sums)
    ∙ (omega arith))

pub fours_are : (w a b c d : ℕ) → Each1 (λ x. x < 100) (a ∷ b ∷ c ∷ d ∷ []) → w ≡ number_l 65536 (a ∷ b ∷ c ∷ d ∷ [])
    → bit_and (((w * 100) % 2 ^ 64 + w / 2 ^ 16) % 2 ^ 64) 0x0000FFFF0000FFFF ≡ number_l 4294967296
    ((a * 100 + b) ∷ (c * 100 + d) ∷ [])
fours_are w a b c d few is =
    let s1 : ℕ = a * 100 + b + 65536 * (b * 100 + c) in
    let s2 : ℕ = c * 100 + d + 65536 * (d * 100) in
    let sums : List ℕ = s1 ∷ s2 ∷ [] in
    let half : w / 2 ^ 16 ≡ b + 65536 * (c + 65536 * (d + 0)) =
    rw is (high 16 a (b + 65536 * (c + 65536 * (d + 0))) (omega arith)) in
    let sum : ((w * 100) % 2 ^ 64 + w / 2 ^ 16) % 2 ^ 64 ≡ number_l 4294967296 sums = omega arith in
    rw sum
    (and_lanes 32 65535 sums (omega arith) (lit< tt) ∙ ap (number_l 4294967296) (masks 16 sums)
    ∙ (omega arith))

-- the four steps compute the number of a word of eight digits

pub record Steps (w x y z : ℕ) : Type 0 where
  pub values : OfBytes w (λ ds. x ≡ number_l 256 (map (λ d. d % 16) ds))
  pub pairs : OfDigits x (λ ds. y ≡ number_l 65536 (joined 10 ds))
  pub fours : OfPairs y (λ ps. z ≡ number_l 4294967296 (joined 100 ps))

places_eight : (a b c d e f g h : ℕ)
    → ((a * 10 + b) * 100 + (c * 10 + d)) * 10000 + ((e * 10 + f) * 100 + (g * 10 + h)) ≡ places
    (a ∷ b ∷ c ∷ d ∷ e ∷ f ∷ g ∷ h ∷ [])
places_eight a b c d e f g h = omega arith

pub value_is : (w x y z r : ℕ) (ds : List ℕ) → Steps w x y z
    → ((a b : ℕ) → a < 10000 → b < 10000 → z ≡ number_l 4294967296 (a ∷ b ∷ []) → r ≡ a * 10000 + b)
    → length ds ≡ 8 → Each1 (λ d. d < 256) ds → w ≡ number_l 256 ds → Each1 (λ d. d % 16 < 10) ds
    → r ≡ places (map (λ d. d % 16) ds)
value_is w x y z r (a ∷ b ∷ c ∷ d ∷ e ∷ f ∷ g ∷ h ∷ []) s last n k is few =
    let y1 =
    s.pairs (a % 16) (b % 16) (c % 16) (d % 16) (e % 16) (f % 16) (g % 16) (h % 16) few
    (s.values (a ∷ b ∷ c ∷ d ∷ e ∷ f ∷ g ∷ h ∷ []) n k is) in
    let z1 =
    s.fours (a % 16 * 10 + b % 16) (c % 16 * 10 + d % 16) (e % 16 * 10 + f % 16) (g % 16 * 10 + h % 16)
    (omega arith) y1 in
    last ((a % 16 * 10 + b % 16) * 100 + (c % 16 * 10 + d % 16)) ((e % 16 * 10 + f % 16) * 100 + (g % 16 * 10 + h % 16))
    (omega arith) (omega arith) z1
    ∙ places_eight (a % 16) (b % 16) (c % 16) (d % 16) (e % 16) (f % 16) (g % 16) (h % 16)
value_is w x y z r _ s last n k is few = absurd (omega arith)
