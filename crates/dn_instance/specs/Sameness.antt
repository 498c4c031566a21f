-- When two instances pose the same problem (this project's profile).
use Rattle.std.specs.Prelude.{◌≡◌, ℤ, List}
use Rattle.dn_arc_theory.specs.Meanings.{SameCurve, SameLength, SameTotal}
use Rattle.dn_arc_theory.specs.Pairs.{bundle}
use Rattle.dn_instance.specs.Instances.{Graph, Instance, MinCostFlow, MaxFlow, ShortestPaths, Sources, Queries, Coordinates}

-- two graphs mean the same if they have the same NODES, and the arcs of each ordered pair mean the same in both
pub record SameGraph {Arc : Type 0} (Same : List Arc → List Arc → Type 0) (G H : Graph Arc) : Type 0 where
  pub nodes : G.nodes ≡ H.nodes
  pub bundles : (p : ℤ × ℤ) → Same (bundle p G.arcs) (bundle p H.arcs)

-- two instances pose the same problem if they are of one kind and mean the same: they have the same supplies or
-- terminals, if any, and graphs that mean the same; or they have the same list of IDs, list of pairs, or points
abbrev pub IsSame : Instance → Instance → Type 0
IsSame (MinCostFlow s G) (MinCostFlow t H) = (s ≡ t) × SameGraph SameCurve G H
IsSame (MaxFlow a b G) (MaxFlow c d H) = (a ≡ c) × (b ≡ d) × SameGraph SameTotal G H
IsSame (ShortestPaths G) (ShortestPaths H) = SameGraph SameLength G H
IsSame (Sources xs) (Sources ys) = xs ≡ ys
IsSame (Queries xs) (Queries ys) = xs ≡ ys
IsSame (Coordinates xs) (Coordinates ys) = xs ≡ ys
IsSame _ _ = ⊥
