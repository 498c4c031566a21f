-- Lemmas on the CAPs of an ordered pair with one more arc.
use Rattle.std.proofs.Common.{◌≡◌, ◌-◌, ◌^◌, ℤ, pos, ◌+ℤ◌, List, [], ◌∷◌, ◌++◌, Bool, int_lt, sym, ap, arith}
use Rattle.std.proofs.lemmas.Int.{ints}
use Rattle.dn_arc_theory.specs.Kinds.{ArcKind, capacities, costs}
use Rattle.dn_arc_theory.specs.Capacities.{total_cap}
use Rattle.dn_arc_theory.specs.declared.arc.CapArc.{CapArc}
use Rattle.dn_arc_theory.specs.declared.arc.CostArc.{CostArc}
use Rattle.dn_arc_theory.specs.Pairs.{bundle}

-- the capacities of this arc and of the arcs of its ordered pair sum to more than 2^63 - 1, for any kind of arcs
abbrev pub passes : {Arc : Type 0} → ArcKind Arc → List ((ℤ × ℤ) × Arc) → (ℤ × ℤ) × Arc → Bool
passes kind before a = int_lt (pos (2 ^ 63 - 1)) (kind.capacity (bundle a.0 before ++ a.1 ∷ []))

pub total_append : (xs : List CapArc) (a : CapArc) → total_cap (xs ++ a ∷ []) ≡ total_cap xs +ℤ a.cap
total_append [] a = omega (arith, ints)
total_append (x ∷ xs) a = let i = total_append xs a in omega (arith, ints)

cost_append : (xs : List CostArc) (a : CostArc) → costs.capacity (xs ++ a ∷ []) ≡ costs.capacity xs +ℤ a.cap
cost_append [] a = omega (arith, ints)
cost_append (x ∷ xs) a = let i = cost_append xs a in omega (arith, ints)

-- whether the CAPs of `max` arcs, or of `min` arcs, sum to more than 2^63 - 1
pub total_passes : (before : List ((ℤ × ℤ) × CapArc)) (a : (ℤ × ℤ) × CapArc)
    → int_lt (pos (2 ^ 63 - 1)) (total_cap (bundle a.0 before) +ℤ a.1.cap) ≡ passes capacities before a
total_passes before a = ap (int_lt (pos (2 ^ 63 - 1))) (sym (total_append (bundle a.0 before) a.1))

pub cost_passes : (before : List ((ℤ × ℤ) × CostArc)) (a : (ℤ × ℤ) × CostArc)
    → int_lt (pos (2 ^ 63 - 1)) (costs.capacity (bundle a.0 before) +ℤ a.1.cap) ≡ passes costs before a
cost_passes before a = ap (int_lt (pos (2 ^ 63 - 1))) (sym (cost_append (bundle a.0 before) a.1))
