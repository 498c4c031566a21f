-- What parallel arcs of a `min` problem mean: for each whole amount, the least cost of splitting it among the arcs
-- (First DIMACS Challenge, network flow format: each arc has a lower bound, a capacity and a cost per unit).
use Rattle.std.specs.Prelude.{◌≡◌, ℤ, pos, ◌+ℤ◌, ◌*ℤ◌, ◌≤ℤ◌, List, [], ◌∷◌}
use Rattle.dn_arc_theory.specs.declared.arc.CostArc.{CostArc}

-- there is one share for each arc, between its LOW and its CAP
abbrev pub AreShares : List CostArc → List ℤ → Type 0
AreShares [] [] = Unit {0}
AreShares [] (y ∷ ys) = ⊥
AreShares (a ∷ rest) [] = ⊥
AreShares (a ∷ rest) (y ∷ ys) = (a.low ≤ℤ y) × (y ≤ℤ a.cap) × AreShares rest ys

-- the total is the sum of the shares
abbrev pub total : List ℤ → ℤ
total [] = pos 0
total (y ∷ ys) = y +ℤ total ys

-- a split of the amount x is a share for each arc, such that the shares sum to x
pub record IsSplit (arcs : List CostArc) (x : ℤ) (xs : List ℤ) : Type 0 where
  pub shares : AreShares arcs xs
  pub whole : total xs ≡ x

-- the cost of a split is the sum of COST times share
abbrev pub cost_of : List CostArc → List ℤ → ℤ
cost_of [] ys = pos 0
cost_of (a ∷ rest) [] = pos 0
cost_of (a ∷ rest) (y ∷ ys) = (a.cost *ℤ y) +ℤ cost_of rest ys

-- the least cost of the amount x is the cost of a split such that no split of x costs less
pub record LeastCost (arcs : List CostArc) (x k : ℤ) : Type 0 where
  pub split : List ℤ
  pub is : IsSplit arcs x split
  pub costs : cost_of arcs split ≡ k
  pub least : (xs : List ℤ) → IsSplit arcs x xs → k ≤ℤ cost_of arcs xs
