-- If two graphs mean the same, each flow of the one has a flow of the other with the same units on each pair, at no
-- greater cost.
use Rattle.std.proofs.Common.{inl, inr, sym, arith, ◌∙◌}
use Rattle.std.proofs.lemmas.Bool.{cases_Bool}
use Rattle.std.proofs.lemmas.Int.{ints}
use Rattle.std.specs.Prelude.{◌≡◌, ◌↔◌, ℤ, ◌≤ℤ◌, List, [], ◌∷◌, true, refl}
use Rattle.std.specs.List.{AllByRecursion}
use Rattle.std.specs.Ordering.{int_eq}
use Rattle.dn_arc_theory.specs.declared.arc.CapArc.{CapArc}
use Rattle.dn_arc_theory.specs.declared.arc.CostArc.{CostArc}
use Rattle.dn_arc_theory.specs.Canonical.{IsCapArc}
use Rattle.dn_arc_theory.specs.Kinds.{capacities, costs}
use Rattle.dn_arc_theory.specs.Pairs.{same_pair, bundle}
use Rattle.dn_arc_theory.proofs.TotalsLaws.{total_meaning}
use Rattle.dn_arc_theory.proofs.CurvesLaws.{curve_meaning}
use Rattle.dn_instance.specs.Instances.{Graph}
use Rattle.dn_instance.specs.Validity.{IsPlaced}
use Rattle.dn_instance.specs.Sameness.{SameGraph}
use Rattle.dn_instance.proofs.SameLaws.{graph_sym}
use Rattle.dn_answers.specs.Flows.{net_outflow, HaveSameUnits}
use Rattle.dn_answers.specs.MaxFlows.{IsFlow, HasMatchingFlow, HasValue, IsGreatestValue}
use Rattle.dn_answers.specs.MinCostFlows.{IsFeasible, flow_cost, HasMatchingFeasible, HasFlowWithin, IsLeastCost}
use Rattle.dn_answers.proofs.SumLaws.{sum_on}
use Rattle.dn_answers.proofs.AssemblyLaws.{entries, matched}
use Rattle.dn_answers.proofs.CarryLaws.{cap_low, cap_high, free, caps_carry, cost_low, cost_high, spent, costs_carry}

-- flows with the same units have the same net outflow at each node
same_net_outflow : {Arc : Type 0} (xs ys : List ((ℤ × ℤ) × Arc)) (fs gs : List ℤ) → HaveSameUnits xs fs ys gs → (v : ℤ)
    → net_outflow v xs fs ≡ net_outflow v ys gs
same_net_outflow xs ys fs gs h v = omega (arith, ints, h.on (λ p. int_eq p.0 v), h.on (λ p. int_eq p.1 v))

-- the arcs of a pair have CAPs of at least 0 if all arcs do
pub caps_at : (p : ℤ × ℤ) (arcs : List ((ℤ × ℤ) × CapArc)) → AllByRecursion (λ a. IsCapArc a.1) arcs
    → AllByRecursion IsCapArc (bundle p arcs)
caps_at p [] h = tt
caps_at p (a ∷ rest) h = elim (cases_Bool (same_pair p a.0)) [
  | inl t ↦ rw t (h.0, caps_at p rest h.1)
  | inr t ↦ rw t (caps_at p rest h.1)
]

pub flow_there : (source sink : ℤ) (G H : Graph CapArc) → SameGraph capacities.Same G H
    → AllByRecursion (λ a. IsCapArc a.1) H.arcs → (flow : List ℤ) → IsFlow source sink G flow
    → HasMatchingFlow source sink G H flow
flow_there source sink G H s caps flow f =
    let m = matched cap_low cap_high free (λ p. true) G.arcs H.arcs
    (λ p. caps_carry (bundle p G.arcs) (bundle p H.arcs) (caps_at p H.arcs caps) (s.bundles p)) flow f.within in
    let same : HaveSameUnits G.arcs flow H.arcs m.flow = record { on = λ chosen. m.units chosen (λ p e. refl) } in
    record {
      other = m.flow;
      is = record {
        within = m.within;
        conserved = λ v h g. sym (same_net_outflow G.arcs H.arcs flow m.flow same v) ∙ f.conserved v h g;
      };
      units = same;
    }

value_there : (source sink : ℤ) (G H : Graph CapArc) → SameGraph capacities.Same G H
    → AllByRecursion (λ a. IsCapArc a.1) H.arcs → (x : ℤ) → HasValue source sink G x → HasValue source sink H x
value_there source sink G H s caps x h =
    let f = flow_there source sink G H s caps h.flow h.is in
    record {
      flow = f.other;
      is = f.is;
      value_is = sym (same_net_outflow G.arcs H.arcs h.flow f.other f.units source) ∙ h.value_is;
    }

-- in a valid graph, CAPs are at least 0
pub caps_of : (n : ℤ) (arcs : List ((ℤ × ℤ) × CapArc)) → AllByRecursion (IsPlaced capacities n) arcs
    → AllByRecursion (λ a. IsCapArc a.1) arcs
caps_of n [] h = tt
caps_of n (a ∷ rest) h = (h.0.is_arc, caps_of n rest h.1)

module _ (source sink : ℤ) (G H : Graph CapArc) (s : SameGraph capacities.Same G H)
    (g : AllByRecursion (λ a. IsCapArc a.1) G.arcs) (h : AllByRecursion (λ a. IsCapArc a.1) H.arcs) where
  pub same_values : (x : ℤ) → HasValue source sink G x ↔ HasValue source sink H x
  same_values x =
      (value_there source sink G H s h x, value_there source sink H G (graph_sym capacities total_meaning G H s) g x)

  pub same_greatest : (x : ℤ) → IsGreatestValue source sink G x ↔ IsGreatestValue source sink H x
  same_greatest x = (
    λ m. record { has = (same_values x).0 m.has; greatest = λ y k. m.greatest y ((same_values y).1 k) },
    λ m. record { has = (same_values x).1 m.has; greatest = λ y k. m.greatest y ((same_values y).0 k) },
  )

-- the cost of a flow is the sum of what its units cost on all pairs
cost_sum : (arcs : List ((ℤ × ℤ) × CostArc)) (fs : List ℤ)
    → flow_cost arcs fs ≡ sum_on (λ p. true) (entries spent arcs fs)
cost_sum [] fs = refl
cost_sum (a ∷ rest) [] = refl
cost_sum (a ∷ rest) (f ∷ fs) = rw (cost_sum rest fs)

pub no_costlier : (xs ys : List ((ℤ × ℤ) × CostArc)) (fs gs : List ℤ)
    → sum_on (λ p. true) (entries spent ys gs) ≤ℤ sum_on (λ p. true) (entries spent xs fs)
    → flow_cost ys gs ≤ℤ flow_cost xs fs
no_costlier xs ys fs gs h = omega (arith, ints, cost_sum xs fs, cost_sum ys gs)

pub feasible_there : (supplies : List (ℤ × ℤ)) (G H : Graph CostArc) → SameGraph costs.Same G H → (flow : List ℤ)
    → IsFeasible supplies G flow → HasMatchingFeasible supplies G H flow
feasible_there supplies G H s flow f =
    let m = matched cost_low cost_high spent (λ p. true) G.arcs H.arcs
    (λ p. costs_carry (bundle p G.arcs) (bundle p H.arcs) (s.bundles p)) flow f.within in
    let same : HaveSameUnits G.arcs flow H.arcs m.flow = record { on = λ chosen. m.units chosen (λ p e. refl) } in
    record {
      other = m.flow;
      is = record {
        within = m.within;
        balanced = λ v. sym (same_net_outflow G.arcs H.arcs flow m.flow same v) ∙ f.balanced v;
      };
      units = same;
      cost = no_costlier G.arcs H.arcs flow m.flow (m.cost_is (λ p. true));
    }

-- each feasible flow of G has one of H that costs no more
pub record Covers (supplies : List (ℤ × ℤ)) (G H : Graph CostArc) : Type 0 where
  pub at : (flow : List ℤ) → IsFeasible supplies G flow → HasFlowWithin supplies H (flow_cost G.arcs flow)

bound_there : (supplies : List (ℤ × ℤ)) (G H : Graph CostArc) → Covers supplies G H → (k : ℤ)
    → HasFlowWithin supplies G k → HasFlowWithin supplies H k
bound_there supplies G H c k h =
    let f = c.at h.flow h.is in record { flow = f.flow; is = f.is; within = omega (arith, ints, f.within, h.within) }

least_there : (supplies : List (ℤ × ℤ)) (G H : Graph CostArc) → Covers supplies G H → Covers supplies H G → (k : ℤ)
    → IsLeastCost supplies G k → IsLeastCost supplies H k
least_there supplies G H there back k m =
    let f = there.at m.flow m.is in
    record {
      flow = f.flow;
      is = f.is;
      cost_is = omega (arith, ints, f.within, m.cost_is, least f.flow f.is);
      least = least;
    }
  where
    least : (other : List ℤ) → IsFeasible supplies H other → k ≤ℤ flow_cost H.arcs other
    least other is = let b = back.at other is in omega (arith, ints, m.least b.flow b.is, b.within)

module _ (supplies : List (ℤ × ℤ)) (G H : Graph CostArc) (there : Covers supplies G H) (back : Covers supplies H G)
    (k : ℤ) where
  pub covered_bounds : HasFlowWithin supplies G k ↔ HasFlowWithin supplies H k
  covered_bounds = (bound_there supplies G H there k, bound_there supplies H G back k)

  pub covered_least : IsLeastCost supplies G k ↔ IsLeastCost supplies H k
  covered_least = (least_there supplies G H there back k, least_there supplies H G back there k)

same_covers : (supplies : List (ℤ × ℤ)) (G H : Graph CostArc) → SameGraph costs.Same G H → Covers supplies G H
same_covers supplies G H s = record {
  at = λ flow f. (let m = feasible_there supplies G H s flow f in
      record { flow = m.other; is = m.is; within = m.cost });
}

module _ (supplies : List (ℤ × ℤ)) (G H : Graph CostArc) (s : SameGraph costs.Same G H) where
  back : Covers supplies H G
  back = same_covers supplies H G (graph_sym costs curve_meaning G H s)

  pub same_bounds : (k : ℤ) → HasFlowWithin supplies G k ↔ HasFlowWithin supplies H k
  same_bounds = covered_bounds supplies G H (same_covers supplies G H s) back

  pub same_least : (k : ℤ) → IsLeastCost supplies G k ↔ IsLeastCost supplies H k
  same_least = covered_least supplies G H (same_covers supplies G H s) back
