-- Which instances, and which texts, have the same answers: the same distances, the same values of flows, or the same
-- costs (Ahuja, Magnanti and Orlin, Network Flows; First and Ninth DIMACS Challenge).
use Rattle.std.specs.Prelude.{◌≡◌, ◌↔◌, ℕ, ℤ, List}
use Rattle.dn_instance.specs.Instances.{Instance, MinCostFlow, MaxFlow, ShortestPaths, Sources, Queries, Coordinates}
use Rattle.dn_instance.specs.Texts.{Reads}
use Rattle.dn_answers.specs.Walks.{HasWalkWithin, IsDistance}
use Rattle.dn_answers.specs.MaxFlows.{HasValue, IsGreatestValue}
use Rattle.dn_answers.specs.MinCostFlows.{HasFlowWithin, IsLeastCost}

-- `min`: a feasible flow costs at most k in both problems or in neither, and the least cost is the same; `max`: a flow
-- has the value x in both or in neither, and the greatest value is the same; `sp`: a walk from u to v is at most d long
-- in both or in neither, and the distance is the same; companions: both list the same IDs, pairs or points
abbrev pub HaveSameAnswers : Instance → Instance → Type 0
HaveSameAnswers (MinCostFlow s G) (MinCostFlow t H) =
    ((k : ℤ) → HasFlowWithin s G k ↔ HasFlowWithin t H k) × ((k : ℤ) → IsLeastCost s G k ↔ IsLeastCost t H k)
HaveSameAnswers (MaxFlow a b G) (MaxFlow c d H) =
    ((x : ℤ) → HasValue a b G x ↔ HasValue c d H x) × ((x : ℤ) → IsGreatestValue a b G x ↔ IsGreatestValue c d H x)
HaveSameAnswers (ShortestPaths G) (ShortestPaths H) =
    ((u v d : ℤ) → HasWalkWithin G u v d ↔ HasWalkWithin H u v d)
    × ((u v d : ℤ) → IsDistance G u v d ↔ IsDistance H u v d)
HaveSameAnswers (Sources xs) (Sources ys) = xs ≡ ys
HaveSameAnswers (Queries xs) (Queries ys) = xs ≡ ys
HaveSameAnswers (Coordinates xs) (Coordinates ys) = xs ≡ ys
HaveSameAnswers _ _ = ⊥

-- t reads as one instance and as nothing else, and this instance has the same answers as I
pub record HasAnswersOf (I : Instance) (t : List ℕ) : Type 0 where
  pub other : Instance
  pub reads : Reads t other
  pub only : (K : Instance) → Reads t K → K ≡ other
  pub same : HaveSameAnswers I other
