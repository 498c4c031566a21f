-- The number that a list of digit values represents, the values in the lanes of a word, and the short number at a
-- position.
use Rattle.std.specs.Prelude.{◌≡◌, ℕ, ◌+◌, ◌*◌, ◌^◌, ◌<◌, pos, List, [], ◌∷◌, length, drop, take, Ok}
use Rattle.std.specs.Simd.Lanes.{Each1, number_l}
use Rattle.dn_num.specs.Number.{number_read}
use Rattle.dn_num.specs.declared.short.Short.{Short}

-- the number whose decimal digits have these values, the first digit first
abbrev pub places : List ℕ → ℕ
places [] = 0
places (d ∷ ds) = d * 10 ^ length ds + places ds

-- each two values joined into one, where the first counts as much as `base` of the second
abbrev pub joined : ℕ → List ℕ → List ℕ
joined base (a ∷ b ∷ xs) = (a * base + b) ∷ joined base xs
joined base _ = []

-- this holds of any four values below 100 in the quarters of a word
abbrev pub OfPairs : ℕ → (List ℕ → Type 0) → Type 0
OfPairs word P =
    (a b c d : ℕ) → Each1 (λ x. x < 100) (a ∷ b ∷ c ∷ d ∷ []) → word ≡ number_l 65536 (a ∷ b ∷ c ∷ d ∷ [])
    → P (a ∷ b ∷ c ∷ d ∷ [])

-- this holds of any eight digits in the bytes of a word
abbrev pub OfDigits : ℕ → (List ℕ → Type 0) → Type 0
OfDigits word P =
    (a b c d e f g h : ℕ) → Each1 (λ x. x < 10) (a ∷ b ∷ c ∷ d ∷ e ∷ f ∷ g ∷ h ∷ [])
    → word ≡ number_l 256 (a ∷ b ∷ c ∷ d ∷ e ∷ f ∷ g ∷ h ∷ []) → P (a ∷ b ∷ c ∷ d ∷ e ∷ f ∷ g ∷ h ∷ [])

-- this holds of the values of the eight bytes of a word
abbrev pub OfBytes : ℕ → (List ℕ → Type 0) → Type 0
OfBytes word P = (ds : List ℕ) → length ds ≡ 8 → Each1 (λ d. d < 256) ds → word ≡ number_l 256 ds → P ds

-- the bytes that the short number uses, from this position on, read as it
abbrev pub IsShortAt : List ℕ → ℕ → Short → Type 0
IsShortAt bytes at s = number_read (take s.used (drop at bytes)) ≡ Ok (pos s.number)
