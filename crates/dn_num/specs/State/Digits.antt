-- The digits of a number, and their character codes.
use Rattle.std.specs.Prelude.{ℕ, ◌+◌, ◌/◌, ◌%◌, List, [], ◌∷◌, ◌++◌, cond, nat_eq, map}

-- the two digits of a number below 100
abbrev pub two_digits : ℕ → List ℕ
two_digits n = (n / 10) ∷ (n % 10) ∷ []

-- the four digits of a number below 10^4
abbrev pub four_digits : ℕ → List ℕ
four_digits n = two_digits (n / 100) ++ two_digits (n % 100)

-- the eight digits of a number below 10^8
abbrev pub eight_digits : ℕ → List ℕ
eight_digits n = four_digits (n / 10000) ++ four_digits (n % 10000)

-- the count of leading zeros, where the last digit does not count as one
abbrev pub zeros_before : List ℕ → ℕ
zeros_before [] = 0
zeros_before (d ∷ []) = 0
zeros_before (d ∷ e ∷ ds) = cond (nat_eq d 0) (1 + zeros_before (e ∷ ds)) 0

-- the character codes of digits
abbrev pub codes_of : List ℕ → List ℕ
codes_of ds = map (λ d. d + 48) ds
