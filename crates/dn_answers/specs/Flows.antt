-- Flows on the arcs of a network, and how many units leave and enter a node (Ahuja, Magnanti and Orlin, Network Flows:
-- flow bounds, outflow and inflow; First DIMACS Challenge, network flow format: the arcs). Flows are in whole units.
use Rattle.std.specs.Prelude.{◌≡◌, ℤ, pos, ◌+ℤ◌, ◌-ℤ◌, ◌≤ℤ◌, List, [], ◌∷◌, Bool, cond}
use Rattle.std.specs.Ordering.{int_eq}

-- the flow has one whole number of units for each arc, at least the arc's `low` and at most its `cap`
abbrev pub IsWithin : {Arc : Type 0} → (Arc → ℤ) → (Arc → ℤ) → List ((ℤ × ℤ) × Arc) → List ℤ → Type 0
IsWithin low cap [] [] = Unit {0}
IsWithin low cap [] (f ∷ flow) = ⊥
IsWithin low cap (a ∷ arcs) [] = ⊥
IsWithin low cap (a ∷ arcs) (f ∷ flow) = (low a.1 ≤ℤ f) × (f ≤ℤ cap a.1) × IsWithin low cap arcs flow

-- the units of a flow on the arcs of all chosen ordered pairs together
abbrev pub units_on : {Arc : Type 0} → (ℤ × ℤ → Bool) → List ((ℤ × ℤ) × Arc) → List ℤ → ℤ
units_on chosen [] flow = pos 0
units_on chosen (a ∷ arcs) [] = pos 0
units_on chosen (a ∷ arcs) (f ∷ flow) = cond (chosen a.0) f (pos 0) +ℤ units_on chosen arcs flow

-- the units that leave v are those on the arcs with the tail v
abbrev pub outflow : {Arc : Type 0} → ℤ → List ((ℤ × ℤ) × Arc) → List ℤ → ℤ
outflow v arcs flow = units_on (λ p. int_eq p.0 v) arcs flow

-- the units that enter v are those on the arcs with the head v
abbrev pub inflow : {Arc : Type 0} → ℤ → List ((ℤ × ℤ) × Arc) → List ℤ → ℤ
inflow v arcs flow = units_on (λ p. int_eq p.1 v) arcs flow

-- the units that leave v minus those that enter v
abbrev pub net_outflow : {Arc : Type 0} → ℤ → List ((ℤ × ℤ) × Arc) → List ℤ → ℤ
net_outflow v arcs flow = outflow v arcs flow -ℤ inflow v arcs flow

-- a flow on the arcs xs and another one on the arcs ys have the same units on each ordered pair, and so on all chosen
-- pairs together
pub record HaveSameUnits {Arc : Type 0} (xs : List ((ℤ × ℤ) × Arc)) (flow : List ℤ) (ys : List ((ℤ × ℤ) × Arc))
    (other : List ℤ) : Type 0 where
  pub on : (chosen : ℤ × ℤ → Bool) → units_on chosen xs flow ≡ units_on chosen ys other
