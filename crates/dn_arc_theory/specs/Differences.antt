-- The first difference in meaning between the arcs of one ordered pair in two texts (this project's profile).
use Rattle.std.specs.Prelude.{◌≡◌, ◌≢◌, ℤ, ◌<ℤ◌, ◌↔◌, List, [], Option, Some, None}
use Rattle.dn_arc_theory.specs.Lengths.{LeastLength}
use Rattle.dn_arc_theory.specs.Capacities.{total_cap}
use Rattle.dn_arc_theory.specs.Splits.{LeastCost}
use Rattle.dn_arc_theory.specs.declared.arc.LengthArc.{LengthArc}
use Rattle.dn_arc_theory.specs.declared.arc.CapArc.{CapArc}
use Rattle.dn_arc_theory.specs.declared.arc.CostArc.{CostArc}
use Rattle.dn_arc_theory.specs.declared.difference.Gap.{Gap}
use Rattle.dn_arc_theory.specs.declared.difference.How.{How}
use Rattle.dn_arc_theory.specs.declared.difference.How.TheVariants.{Lengths, Totals, Costs}

-- the option is the least length, or none if there is no arc
abbrev pub IsLengthOf : List LengthArc → Option ℤ → Type 0
IsLengthOf arcs None = arcs ≡ []
IsLengthOf arcs (Some w) = LeastLength arcs w

-- the option is the least cost of the amount, or none if the amount cannot be split
abbrev pub IsCostOf : List CostArc → ℤ → Option ℤ → Type 0
IsCostOf arcs x None = (k : ℤ) → LeastCost arcs x k → ⊥
IsCostOf arcs x (Some k) = LeastCost arcs x k

-- a gap is the least amount at which two cost curves differ, with the cost of this amount on each side
pub record IsGap (xs ys : List CostArc) (g : Gap) : Type 0 where
  pub left : IsCostOf xs g.amount g.left
  pub right : IsCostOf ys g.amount g.right
  pub differ : g.left ≢ g.right
  pub same_below : (x k : ℤ) → x <ℤ g.amount → LeastCost xs x k ↔ LeastCost ys x k

-- `sp`: the difference is both least lengths, which are not equal
abbrev pub LengthsDiffer : List LengthArc → List LengthArc → How → Type 0
LengthsDiffer xs ys (Lengths left right) = IsLengthOf xs left × IsLengthOf ys right × (left ≢ right)
LengthsDiffer xs ys (Totals left right) = ⊥
LengthsDiffer xs ys (Costs gap) = ⊥

-- `max`: the difference is both total capacities, which are not equal
abbrev pub TotalsDiffer : List CapArc → List CapArc → How → Type 0
TotalsDiffer xs ys (Lengths left right) = ⊥
TotalsDiffer xs ys (Totals left right) = (total_cap xs ≡ left) × (total_cap ys ≡ right) × (left ≢ right)
TotalsDiffer xs ys (Costs gap) = ⊥

-- `min`: the difference is the gap between the cost curves
abbrev pub CurvesDiffer : List CostArc → List CostArc → How → Type 0
CurvesDiffer xs ys (Lengths left right) = ⊥
CurvesDiffer xs ys (Totals left right) = ⊥
CurvesDiffer xs ys (Costs gap) = IsGap xs ys gap
