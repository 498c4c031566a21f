-- The breakpoints of a cost curve: its free capacity by ascending cost, as pairs of a cost and the free capacity at it.
use Rattle.std.specs.Prelude.{◌≡◌, ℤ, pos, ◌+ℤ◌, ◌≤ℤ◌, ◌<ℤ◌, List, [], ◌∷◌, Option, Some, None, Bool, cond, int_lt, find}
use Rattle.std.specs.List.{AllByRecursion, list_any}
use Rattle.std.specs.Ordering.{int_eq}

-- the list of a first breakpoint, if there is one, and those after it
abbrev pub steps_of : Option (ℤ × ℤ) → List (ℤ × ℤ) → List (ℤ × ℤ)
steps_of None rest = []
steps_of (Some step) rest = step ∷ rest

-- all breakpoints after the first have higher costs; if there is no first one, there are no others
abbrev pub IsFirst : Option (ℤ × ℤ) → List (ℤ × ℤ) → Type 0
IsFirst None rest = rest ≡ []
IsFirst (Some step) rest = AllByRecursion (λ (other : ℤ × ℤ). step.0 <ℤ other.0) rest

-- the breakpoints with more capacity at this cost, merged with the capacity already at it
abbrev pub put_step : List (ℤ × ℤ) → ℤ × ℤ → List (ℤ × ℤ)
put_step [] more = more ∷ []
put_step (step ∷ rest) more =
    cond (int_lt more.0 step.0) (more ∷ step ∷ rest)
    (cond (int_lt step.0 more.0) (step ∷ put_step rest more) ((step.0, step.1 +ℤ more.1) ∷ rest))

-- the first breakpoint above this cost
abbrev pub step_past : List (ℤ × ℤ) → ℤ → Option (ℤ × ℤ)
step_past steps cost = find (λ (step : ℤ × ℤ). int_lt cost step.0) steps

-- there is capacity at this cost
abbrev pub has_step : List (ℤ × ℤ) → ℤ → Bool
has_step steps cost = list_any (λ (step : ℤ × ℤ). int_eq cost step.0) steps

-- the breakpoints are sorted by strictly ascending cost, and each capacity is at least 1
abbrev pub AreSteps : List (ℤ × ℤ) → Type 0
AreSteps [] = Unit {0}
AreSteps (step ∷ rest) = (pos 1 ≤ℤ step.1) × AllByRecursion (λ (other : ℤ × ℤ). step.0 <ℤ other.0) rest × AreSteps rest

-- the total capacity of all breakpoints
abbrev pub steps_room : List (ℤ × ℤ) → ℤ
steps_room [] = pos 0
steps_room (step ∷ rest) = step.1 +ℤ steps_room rest

-- the breakpoints with this capacity at this cost added, or unchanged if the capacity is not above 0
abbrev pub add_step : List (ℤ × ℤ) → ℤ × ℤ → List (ℤ × ℤ)
add_step steps more = cond (int_lt (pos 0) more.1) (put_step steps more) steps
