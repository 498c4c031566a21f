-- Where a cost is among a few breakpoints.
use Rattle.std.specs.Prelude.{◌≡◌, ◌<◌, ℕ, zero, suc, ℤ, List, [], ◌∷◌, length, cond, int_lt}

-- there are breakpoints in the map only if there are four before them
abbrev pub HoldsFew : List (ℤ × ℤ) → List (ℤ × ℤ) → Type 0
HoldsFew few rest = length few < 4 → rest ≡ []

-- how many breakpoints at the beginning have lesser costs
abbrev pub spot : List (ℤ × ℤ) → ℤ → ℕ
spot [] cost = zero
spot (step ∷ rest) cost = cond (int_lt step.0 cost) (suc (spot rest cost)) zero
