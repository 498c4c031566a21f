-- Feasible flows of a `min` problem, their costs and the least of these (Ahuja, Magnanti and Orlin, Network Flows: the
-- minimum cost flow problem; First DIMACS Challenge, network flow format: supplies and demands, LOW, CAP and COST).
use Rattle.std.specs.Prelude.{◌≡◌, ℤ, pos, ◌+ℤ◌, ◌*ℤ◌, ◌≤ℤ◌, List, [], ◌∷◌, cond}
use Rattle.std.specs.Ordering.{int_eq}
use Rattle.dn_arc_theory.specs.declared.arc.CostArc.{CostArc}
use Rattle.dn_instance.specs.Instances.{Graph}
use Rattle.dn_answers.specs.Flows.{IsWithin, net_outflow, HaveSameUnits}

-- the supply of v is the flow that is listed for v, or 0 if none is listed; a demand is a negative supply
abbrev pub listed_supply : List (ℤ × ℤ) → ℤ → ℤ
listed_supply [] v = pos 0
listed_supply (s ∷ supplies) v = cond (int_eq s.0 v) s.1 (listed_supply supplies v)

-- a feasible flow has LOW to CAP units on each arc, and the units that leave each node, minus those that enter it, are
-- its supply (mass balance)
pub record IsFeasible (supplies : List (ℤ × ℤ)) (G : Graph CostArc) (flow : List ℤ) : Type 0 where
  pub within : IsWithin (λ a. a.low) (λ a. a.cap) G.arcs flow
  pub balanced : (v : ℤ) → net_outflow v G.arcs flow ≡ listed_supply supplies v

-- the cost of a flow is the sum of COST times units over all arcs
abbrev pub flow_cost : List ((ℤ × ℤ) × CostArc) → List ℤ → ℤ
flow_cost [] flow = pos 0
flow_cost (a ∷ arcs) [] = pos 0
flow_cost (a ∷ arcs) (f ∷ flow) = (a.1.cost *ℤ f) +ℤ flow_cost arcs flow

-- some feasible flow costs at most this much
pub record HasFlowWithin (supplies : List (ℤ × ℤ)) (G : Graph CostArc) (bound : ℤ) : Type 0 where
  pub flow : List ℤ
  pub is : IsFeasible supplies G flow
  pub within : flow_cost G.arcs flow ≤ℤ bound

-- the least cost is the cost of a feasible flow such that no feasible flow costs less; there is none if no flow is
-- feasible
pub record IsLeastCost (supplies : List (ℤ × ℤ)) (G : Graph CostArc) (cost : ℤ) : Type 0 where
  pub flow : List ℤ
  pub is : IsFeasible supplies G flow
  pub cost_is : flow_cost G.arcs flow ≡ cost
  pub least : (other : List ℤ) → IsFeasible supplies G other → cost ≤ℤ flow_cost G.arcs other

-- H has a feasible flow with the same units on each ordered pair as this flow of G, and it costs no more
pub record HasMatchingFeasible (supplies : List (ℤ × ℤ)) (G H : Graph CostArc) (flow : List ℤ) : Type 0 where
  pub other : List ℤ
  pub is : IsFeasible supplies H other
  pub units : HaveSameUnits G.arcs flow H.arcs other
  pub cost : flow_cost H.arcs other ≤ℤ flow_cost G.arcs flow
