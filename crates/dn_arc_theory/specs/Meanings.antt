-- When two lists of arcs of one ordered pair mean the same (this project's profile).
use Rattle.std.specs.Prelude.{◌≡◌, ℤ, List}
use Rattle.dn_arc_theory.specs.Lengths.{LeastLength}
use Rattle.dn_arc_theory.specs.Capacities.{total_cap}
use Rattle.dn_arc_theory.specs.Splits.{LeastCost}
use Rattle.dn_arc_theory.specs.declared.arc.LengthArc.{LengthArc}
use Rattle.dn_arc_theory.specs.declared.arc.CapArc.{CapArc}
use Rattle.dn_arc_theory.specs.declared.arc.CostArc.{CostArc}

-- `sp`: both lists have the same least length, or both are empty
pub record SameLength (xs ys : List LengthArc) : Type 0 where
  pub there : (w : ℤ) → LeastLength xs w → LeastLength ys w
  pub back : (w : ℤ) → LeastLength ys w → LeastLength xs w

-- `max`: both lists have the same total capacity
pub record SameTotal (xs ys : List CapArc) : Type 0 where
  pub is : total_cap xs ≡ total_cap ys

-- `min`: each amount has the same least cost in both lists, or none in both
pub record SameCurve (xs ys : List CostArc) : Type 0 where
  pub there : (x k : ℤ) → LeastCost xs x k → LeastCost ys x k
  pub back : (x k : ℤ) → LeastCost ys x k → LeastCost xs x k
