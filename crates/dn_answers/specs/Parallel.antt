-- The problem that the arcs of one ordered pair pose alone (this project's profile).
use Rattle.std.specs.Prelude.{◌≢◌, ◌↔◌, ℤ, pos, ◌-ℤ◌, ◌<ℤ◌, List, [], ◌∷◌, map, Option, Some, None}
use Rattle.dn_arc_theory.specs.declared.arc.LengthArc.{LengthArc}
use Rattle.dn_arc_theory.specs.declared.arc.CostArc.{CostArc}
use Rattle.dn_arc_theory.specs.declared.difference.Gap.{Gap}
use Rattle.dn_arc_theory.specs.declared.difference.How.{How}
use Rattle.dn_arc_theory.specs.declared.difference.How.TheVariants.{Lengths, Totals, Costs}
use Rattle.dn_arc_theory.specs.Pairs.{bundle}
use Rattle.dn_instance.specs.Instances.{Graph, Instance, MinCostFlow, MaxFlow, ShortestPaths}
use Rattle.dn_answers.specs.Walks.{IsWalk, IsDistance}
use Rattle.dn_answers.specs.MaxFlows.{IsGreatestValue}
use Rattle.dn_answers.specs.MinCostFlows.{IsFeasible, IsLeastCost}

-- the graph with these arcs alone, each of them from p.0 to p.1
abbrev pub parallel : {Arc : Type 0} → ℤ → ℤ × ℤ → List Arc → Graph Arc
parallel nodes p arcs = record { nodes = nodes; arcs = map (λ a. (p, a)) arcs }

-- the graph with the arcs of the ordered pair p alone
abbrev pub pair_alone : {Arc : Type 0} → ℤ × ℤ → Graph Arc → Graph Arc
pair_alone p G = parallel G.nodes p (bundle p G.arcs)

-- the supplies that send x units from p.0 to p.1
abbrev pub supplies_for : ℤ × ℤ → ℤ → List (ℤ × ℤ)
supplies_for p x = (p.0, x) ∷ (p.1, pos 0 -ℤ x) ∷ []

-- the option is the distance from u to v, or none if no walk leads from u to v
abbrev pub IsDistanceOf : Graph LengthArc → ℤ → ℤ → Option ℤ → Type 0
IsDistanceOf G u v None = (walk : List ((ℤ × ℤ) × LengthArc)) → IsWalk G u v walk → ⊥
IsDistanceOf G u v (Some d) = IsDistance G u v d

-- the option is the least cost, or none if no flow is feasible
abbrev pub IsLeastCostOf : List (ℤ × ℤ) → Graph CostArc → Option ℤ → Type 0
IsLeastCostOf supplies G None = (flow : List ℤ) → IsFeasible supplies G flow → ⊥
IsLeastCostOf supplies G (Some k) = IsLeastCost supplies G k

-- `min`: sending the amount of the gap over the arcs of p alone has its left cost in G and its right cost in H, and
-- these differ; sending any smaller amount has the same least cost in both
pub record HaveCosts (G H : Graph CostArc) (p : ℤ × ℤ) (gap : Gap) : Type 0 where
  pub left : IsLeastCostOf (supplies_for p gap.amount) (pair_alone p G) gap.left
  pub right : IsLeastCostOf (supplies_for p gap.amount) (pair_alone p H) gap.right
  pub differ : gap.left ≢ gap.right
  pub same_below : (x k : ℤ) → x <ℤ gap.amount
      → IsLeastCost (supplies_for p x) (pair_alone p G) k ↔ IsLeastCost (supplies_for p x) (pair_alone p H) k

-- the two problems that the arcs of p alone pose have the two answers that `how` reports, and these differ: least costs
-- of sending one amount (`min`), greatest values (`max`), or distances (`sp`)
abbrev pub HaveAnswers : Instance → Instance → ℤ × ℤ → How → Type 0
HaveAnswers (MinCostFlow s G) (MinCostFlow t H) p (Costs gap) = HaveCosts G H p gap
HaveAnswers (MaxFlow a b G) (MaxFlow c d H) p (Totals left right) =
    IsGreatestValue p.0 p.1 (pair_alone p G) left × IsGreatestValue p.0 p.1 (pair_alone p H) right × (left ≢ right)
HaveAnswers (ShortestPaths G) (ShortestPaths H) p (Lengths left right) =
    IsDistanceOf (pair_alone p G) p.0 p.1 left × IsDistanceOf (pair_alone p H) p.0 p.1 right × (left ≢ right)
HaveAnswers _ _ p how = ⊥
