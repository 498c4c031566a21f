-- The answers of small problems.
use Rattle.std.proofs.Common.{inl, inr, ap, arith}
use Rattle.std.proofs.lemmas.Int.{ints}
use Rattle.std.proofs.lemmas.Bool.{cases_Bool}
use Rattle.std.proofs.lemmas.Bool.Decides.{Decides-int_eq}
use Rattle.std.specs.Prelude.{◌≢◌, ℤ, pos, negsuc, ◌+ℤ◌, ◌≤ℤ◌, List, [], ◌∷◌, cond, refl}
use Rattle.std.specs.List.{AllByRecursion}
use Rattle.std.specs.Ordering.{int_eq}
use Rattle.dn_arc_theory.specs.declared.arc.LengthArc.{LengthArc}
use Rattle.dn_instance.specs.Instances.{MinCostFlow, MaxFlow, ShortestPaths}
use Rattle.dn_answers.specs.Walks.{IsAmong, Leads, walk_length, IsWalk, HasWalkWithin, IsDistance}
use Rattle.dn_answers.specs.Flows.{net_outflow}
use Rattle.dn_answers.specs.MaxFlows.{IsFlow, IsGreatestValue}
use Rattle.dn_answers.specs.MinCostFlows.{IsFeasible, flow_cost, IsLeastCost}
use Rattle.dn_answers.specs.Answers.{HaveSameAnswers}
use Rattle.dn_answers.specs.Examples.{three_lengths, three_caps, three_costs, three_units, there_and_back, negative_cycle, returning_caps, forced_costs, two_units, five_units, unbalanced}
use Rattle.dn_answers.proofs.WalkLaws.{at_among}
use Rattle.dn_answers.proofs.ParallelLaws.{not_eq}

module _ (height : ℤ → ℤ) where
  -- the height does not grow by more than the LENGTH of the arc
  abbrev Gentle : (ℤ × ℤ) × LengthArc → Type 0
  Gentle a = height a.0.1 ≤ℤ (height a.0.0 +ℤ a.1.length)

  -- a walk is at least as long as the height that it climbs
  climbs : (arcs : List ((ℤ × ℤ) × LengthArc)) → AllByRecursion Gentle arcs → (u v : ℤ)
      (walk : List ((ℤ × ℤ) × LengthArc)) → AllByRecursion (λ a. IsAmong a arcs) walk → Leads u walk v
      → height v ≤ℤ (height u +ℤ walk_length walk)
  climbs arcs h u v [] m l = omega (arith, ints, ap height l)
  climbs arcs h u v (a ∷ walk) m l =
      omega (arith, ints, climbs arcs h a.0.1 v walk m.1 l.1, ap height l.0, at_among Gentle arcs h a m.0)

-- the distances from 1
abbrev from_one : ℤ → ℤ
from_one v = cond (int_eq v (pos 1)) (pos 0) (cond (int_eq v (pos 2)) (pos 4) (pos 5))

pub three_distance : IsDistance three_lengths (pos 1) (pos 3) (pos 5)
three_distance = record {
  walk = ((pos 1, pos 2), record { length = pos 4 }) ∷ ((pos 2, pos 3), record { length = pos 1 }) ∷ [];
  is = record {
    start = record { some = omega (arith, ints); most = omega (arith, ints) };
    arcs = (inr (inl refl), (inr (inr (inl refl)), tt));
    leads = (refl, (refl, refl));
  };
  length = refl;
  least = λ other w.
      (let h = climbs from_one three_lengths.arcs
      (omega (arith, ints), (omega (arith, ints), (omega (arith, ints), (omega (arith, ints), tt))))
      (pos 1) (pos 3) other w.arcs w.leads in
      omega (arith, ints));
}

-- what a flow of the three arcs carries
value_of : (flow : List ℤ) → IsFlow (pos 1) (pos 3) three_caps flow → net_outflow (pos 1) three_caps.arcs flow ≤ℤ pos 3
value_of [] f = absurd f.within
value_of (x ∷ []) f = absurd f.within.2
value_of (x ∷ y ∷ []) f = absurd f.within.2.2
value_of (x ∷ y ∷ z ∷ []) f =
    omega (arith, ints, f.conserved (pos 2) (λ h. cc) (λ h. cc), f.within.2.0, f.within.2.1, f.within.2.2.1)
value_of (x ∷ y ∷ z ∷ w ∷ flow) f = absurd f.within.2.2.2

pub three_value : IsGreatestValue (pos 1) (pos 3) three_caps (pos 3)
three_value = record {
  has = record {
    flow = pos 2 ∷ pos 2 ∷ pos 1 ∷ [];
    is = record {
      within = (
        omega (arith, ints),
        omega (arith, ints),
        (omega (arith, ints), omega (arith, ints), (omega (arith, ints), omega (arith, ints), tt)),
      );
      conserved = λ v g h.
          rw (not_eq (pos 1) v g, not_eq (pos 3) v h)
          (elim (cases_Bool (int_eq (pos 2) v)) [ inl t ↦ rw t | inr t ↦ rw t ]);
    };
    value_is = refl;
  };
  greatest = λ x h. rw h.value_is at (value_of h.flow h.is);
}

cost_least : (flow : List ℤ) → IsFeasible three_units three_costs flow → pos 10 ≤ℤ flow_cost three_costs.arcs flow
cost_least [] f = absurd f.within
cost_least (x ∷ []) f = absurd f.within.2
cost_least (x ∷ y ∷ []) f = absurd f.within.2.2
cost_least (x ∷ y ∷ z ∷ []) f =
    omega (arith, ints, f.balanced (pos 1), f.balanced (pos 2), f.within.2.1)
cost_least (x ∷ y ∷ z ∷ w ∷ flow) f = absurd f.within.2.2.2

pub three_cost : IsLeastCost three_units three_costs (pos 10)
three_cost = record {
  flow = pos 2 ∷ pos 2 ∷ pos 1 ∷ [];
  is = record {
    within = (
      omega (arith, ints),
      omega (arith, ints),
      (omega (arith, ints), omega (arith, ints), (omega (arith, ints), omega (arith, ints), tt)),
    );
    balanced = λ v. elim (cases_Bool (int_eq (pos 1) v)) [
      | inl a ↦ rw (← (Decides-int_eq (pos 1) v).0 a)
      | inr a ↦ elim (cases_Bool (int_eq (pos 2) v)) [
        | inl b ↦ rw (← (Decides-int_eq (pos 2) v).0 b)
        | inr b ↦ elim (cases_Bool (int_eq (pos 3) v)) [ inl c ↦ rw (a, b, c) | inr c ↦ rw (a, b, c) ]
      ]
    ];
  };
  cost_is = refl;
  least = cost_least;
}

-- the distances from 1, with a long way there and a short way back
abbrev from_one_there : ℤ → ℤ
from_one_there v = cond (int_eq v (pos 1)) (pos 0) (pos 5)

pub there_distance : IsDistance there_and_back (pos 1) (pos 2) (pos 5)
there_distance = record {
  walk = ((pos 1, pos 2), record { length = pos 5 }) ∷ [];
  is = record {
    start = record { some = omega (arith, ints); most = omega (arith, ints) };
    arcs = (inl refl, tt);
    leads = (refl, refl);
  };
  length = refl;
  least = λ other w.
      (let h = climbs from_one_there there_and_back.arcs (omega (arith, ints), (omega (arith, ints), tt))
      (pos 1) (pos 2) other w.arcs w.leads in
      omega (arith, ints));
}

-- what a flow carries if units can return to the source
value_of_returning : (flow : List ℤ) → IsFlow (pos 1) (pos 3) returning_caps flow
    → net_outflow (pos 1) returning_caps.arcs flow ≤ℤ pos 1
value_of_returning [] f = absurd f.within
value_of_returning (x ∷ []) f = absurd f.within.2
value_of_returning (x ∷ y ∷ []) f = absurd f.within.2.2
value_of_returning (x ∷ y ∷ z ∷ []) f =
    omega (arith, ints, f.conserved (pos 2) (λ h. cc) (λ h. cc), f.within.2.2.1)
value_of_returning (x ∷ y ∷ z ∷ w ∷ flow) f = absurd f.within.2.2.2

pub returning_value : IsGreatestValue (pos 1) (pos 3) returning_caps (pos 1)
returning_value = record {
  has = record {
    flow = pos 1 ∷ pos 0 ∷ pos 1 ∷ [];
    is = record {
      within = (
        omega (arith, ints),
        omega (arith, ints),
        (omega (arith, ints), omega (arith, ints), (omega (arith, ints), omega (arith, ints), tt)),
      );
      conserved = λ v g h.
          rw (not_eq (pos 1) v g, not_eq (pos 3) v h)
          (elim (cases_Bool (int_eq (pos 2) v)) [ inl t ↦ rw t | inr t ↦ rw t ]);
    };
    value_is = refl;
  };
  greatest = λ x h. rw h.value_is at (value_of_returning h.flow h.is);
}

forced_least : (flow : List ℤ) → IsFeasible two_units forced_costs flow → pos 6 ≤ℤ flow_cost forced_costs.arcs flow
forced_least [] f = absurd f.within
forced_least (x ∷ []) f = absurd f.within.2
forced_least (x ∷ y ∷ []) f = omega (arith, ints, f.balanced (pos 1), f.within.2.0)
forced_least (x ∷ y ∷ z ∷ flow) f = absurd f.within.2.2

pub forced_cost_is : IsLeastCost two_units forced_costs (pos 6)
forced_cost_is = record {
  flow = pos 1 ∷ pos 1 ∷ [];
  is = record {
    within = (
      omega (arith, ints),
      omega (arith, ints),
      (omega (arith, ints), omega (arith, ints), tt),
    );
    balanced = λ v. elim (cases_Bool (int_eq (pos 1) v)) [
      | inl a ↦ rw (← (Decides-int_eq (pos 1) v).0 a)
      | inr a ↦ elim (cases_Bool (int_eq (pos 2) v)) [ inl b ↦ rw (a, b) | inr b ↦ rw (a, b) ]
    ];
  };
  cost_is = refl;
  least = forced_least;
}

-- no arc has the tail 3
from_three : (walk : List ((ℤ × ℤ) × LengthArc)) → AllByRecursion (λ a. IsAmong a three_lengths.arcs) walk
    → Leads (pos 3) walk (pos 1) → ⊥
from_three [] m l = omega (arith, ints)
from_three (a ∷ walk) m l =
    at_among (λ b. b.0.0 ≢ pos 3) three_lengths.arcs
    (λ e. omega (arith, ints), (λ e. omega (arith, ints), (λ e. omega (arith, ints), (λ e. omega (arith, ints), tt))))
    a m.0 l.0

pub unreached : (bound : ℤ) → HasWalkWithin three_lengths (pos 3) (pos 1) bound → ⊥
unreached bound w = from_three w.walk w.is.arcs w.is.leads

-- a walk becomes shorter by one turn of the cycle
pub endless : (d : ℤ) → IsDistance negative_cycle (pos 1) (pos 2) d → ⊥
endless d m =
    let turn : List ((ℤ × ℤ) × LengthArc) =
    ((pos 1, pos 2), record { length = pos 1 }) ∷ ((pos 2, pos 1), record { length = negsuc 1 }) ∷ m.walk in
    let is : IsWalk negative_cycle (pos 1) (pos 2) turn =
    record {
      start = m.is.start;
      arcs = (inl refl, (inr (inl refl), m.is.arcs));
      leads = (refl, (refl, m.is.leads));
    } in
    omega (arith, ints, m.least turn is, m.length)

pub too_many : (flow : List ℤ) → IsFeasible five_units forced_costs flow → ⊥
too_many [] f = absurd f.within
too_many (x ∷ []) f = absurd f.within.2
too_many (x ∷ y ∷ []) f = omega (arith, ints, f.balanced (pos 1), f.within.1, f.within.2.1)
too_many (x ∷ y ∷ z ∷ flow) f = absurd f.within.2.2

pub uneven : (flow : List ℤ) → IsFeasible unbalanced forced_costs flow → ⊥
uneven [] f = absurd f.within
uneven (x ∷ []) f = absurd f.within.2
uneven (x ∷ y ∷ []) f = omega (arith, ints, f.balanced (pos 1), f.balanced (pos 2))
uneven (x ∷ y ∷ z ∷ flow) f = absurd f.within.2.2

pub lengths_differ : HaveSameAnswers (ShortestPaths there_and_back) (ShortestPaths negative_cycle) → ⊥
lengths_differ h = endless (pos 5) ((h.1 (pos 1) (pos 2) (pos 5)).0 there_distance)

pub capacities_differ :
    HaveSameAnswers (MaxFlow (pos 1) (pos 3) three_caps) (MaxFlow (pos 1) (pos 3) returning_caps) → ⊥
capacities_differ h =
    let most = returning_value.greatest (pos 3) ((h.1 (pos 3)).0 three_value).has in omega (arith, ints)

pub costs_differ : HaveSameAnswers (MinCostFlow two_units forced_costs) (MinCostFlow five_units forced_costs) → ⊥
costs_differ h = let m = (h.1 (pos 6)).0 forced_cost_is in too_many m.flow m.is
