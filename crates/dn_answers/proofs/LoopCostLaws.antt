-- Of the self-loops of a `min` graph, only the least cost over all amounts changes costs.
use Rattle.std.proofs.Common.{inl, inr, ap, arith, ◌&&◌}
use Rattle.std.proofs.lemmas.Bool.{cases_Bool, and_parts}
use Rattle.std.proofs.lemmas.Int.{ints, by_lt_z}
use Rattle.std.proofs.lemmas.Bool.Decides.{Decides-int_eq, not_from_Decides}
use Rattle.std.specs.Prelude.{◌≡◌, ◌≢◌, ◌↔◌, ℤ, pos, ◌-ℤ◌, ◌*ℤ◌, ◌≤ℤ◌, List, [], ◌∷◌, Bool, true, false, cond, refl}
use Rattle.std.specs.Int.Signed.{≤ℤ_refl}
use Rattle.std.specs.Ordering.{int_eq}
use Rattle.dn_arc_theory.specs.declared.arc.CostArc.{CostArc}
use Rattle.dn_arc_theory.specs.Meanings.{SameCurve}
use Rattle.dn_arc_theory.specs.Pairs.{bundle}
use Rattle.dn_arc_theory.specs.Splits.{AreShares, total, cost_of}
use Rattle.dn_arc_theory.proofs.CurvesLaws.{curve_meaning}
use Rattle.dn_arc_theory.proofs.ProductsLaws.{mul_sub, mul_mono}
use Rattle.dn_instance.specs.Instances.{Graph}
use Rattle.dn_answers.specs.Flows.{units_on, net_outflow}
use Rattle.dn_answers.specs.MinCostFlows.{HasFlowWithin, IsLeastCost}
use Rattle.dn_answers.specs.Loops.{LeastOverall, SameButForLoops}
use Rattle.dn_answers.proofs.AssemblyLaws.{Carried, matched}
use Rattle.dn_answers.proofs.CarryLaws.{cost_low, cost_high, spent, CostShares, cost_shares, spent_cost, costs_carry}
use Rattle.dn_answers.proofs.FlowLaws.{no_costlier, Covers, covered_bounds, covered_least}

-- a product with a factor of at least 0 does not fall with the other factor
grows : (c l y : ℤ) → pos 0 ≤ℤ c → l ≤ℤ y → (c *ℤ l) ≤ℤ (c *ℤ y)
grows c l y some le =
    omega (arith, ints, mul_mono (pos 0) c (y -ℤ l) some (omega (arith, ints)), mul_sub c y l)

-- a product with a factor of at most 0 does not grow with the other factor
falls : (c y u : ℤ) → c ≤ℤ pos 0 → y ≤ℤ u → (c *ℤ u) ≤ℤ (c *ℤ y)
falls c y u none le =
    omega (arith, ints, mul_mono c (pos 0) (u -ℤ y) none (omega (arith, ints)), mul_sub c u y)

-- shares of the arcs such that no shares cost less
record Cheapest (arcs : List CostArc) : Type 0 where
  split : List ℤ
  shares : AreShares arcs split
  least : (zs : List ℤ) → AreShares arcs zs → cost_of arcs split ≤ℤ cost_of arcs zs

-- one more arc, with a share that costs least
one_more : (a : CostArc) (rest : List CostArc) → Cheapest rest → (y : ℤ) → a.low ≤ℤ y → y ≤ℤ a.cap
    → ((z : ℤ) → a.low ≤ℤ z → z ≤ℤ a.cap → (a.cost *ℤ y) ≤ℤ (a.cost *ℤ z)) → Cheapest (a ∷ rest)
one_more a rest c y low cap each =
    record { split = y ∷ c.split; shares = (low, cap, c.shares); least = least }
  where
    least : (zs : List ℤ) → AreShares (a ∷ rest) zs → cost_of (a ∷ rest) (y ∷ c.split) ≤ℤ cost_of (a ∷ rest) zs
    least [] h = absurd h
    least (z ∷ zs) h = omega (arith, ints, c.least zs h.2, each z h.0 h.1)

-- arcs that have shares have cheapest ones: LOW where COST is at least 0, and CAP elsewhere
cheapest : (arcs : List CostArc) (zs : List ℤ) → AreShares arcs zs → Cheapest arcs
cheapest [] zs h = record { split = []; shares = tt; least = λ ys g. ≤ℤ_refl (pos 0) }
cheapest (a ∷ rest) [] h = absurd h
cheapest (a ∷ rest) (z ∷ zs) h =
    let c = cheapest rest zs h.2 in
    let some : a.low ≤ℤ a.cap = omega (arith, ints, h.0, h.1) in
    by_lt_z a.cost (pos 0)
    (λ lt. one_more a rest c a.cap some (≤ℤ_refl a.cap) (λ y low cap.
    falls a.cost y a.cap (omega (arith, ints)) cap))
    (λ le. one_more a rest c a.low (≤ℤ_refl a.low) some (λ y low cap. grows a.cost a.low y le low))

-- their cost is the least cost over all amounts
overall : (arcs : List CostArc) (c : Cheapest arcs) → LeastOverall arcs (cost_of arcs c.split)
overall arcs c = record {
  amount = total c.split;
  is = record {
    split = c.split;
    is = record { shares = c.shares; whole = refl };
    costs = refl;
    least = λ ys s. c.least ys s.shares;
  };
  least = λ x j l. rw (← l.costs) (c.least l.split l.is.shares);
}

-- self-loops with the same least cost over all amounts have shares that cost no more
loops_carry : (xs ys : List CostArc) → ((k : ℤ) → LeastOverall xs k → LeastOverall ys k) → (zs : List ℤ)
    → CostShares xs zs → Carried cost_low cost_high spent false xs ys zs
loops_carry xs ys there zs h =
    let shares = (cost_shares xs zs).0 h in
    let c = cheapest xs zs shares in
    let l = there (cost_of xs c.split) (overall xs c) in
    let d = c.least zs shares in
    record {
      split = l.is.split;
      shares = (cost_shares ys l.is.split).1 l.is.is.shares;
      same = λ never. cc;
      cost_is = omega (arith, ints, l.is.costs, spent_cost xs zs, spent_cost ys l.is.split);
    }

-- the pair joins two different nodes
abbrev joins_two : ℤ × ℤ → Bool
joins_two p = cond (int_eq p.0 p.1) false true

-- the pairs of v and another node
abbrev leaves : ℤ → ℤ × ℤ → Bool
leaves v p = joins_two p && int_eq p.0 v

abbrev enters : ℤ → ℤ × ℤ → Bool
enters v p = joins_two p && int_eq p.1 v

-- the units of self-loops do not change the net outflow
net_of_two : {Arc : Type 0} (v : ℤ) (arcs : List ((ℤ × ℤ) × Arc)) (fs : List ℤ)
    → net_outflow v arcs fs ≡ units_on (leaves v) arcs fs -ℤ units_on (enters v) arcs fs
net_of_two v [] fs = refl
net_of_two v (a ∷ rest) [] = refl
net_of_two v (a ∷ rest) (f ∷ fs) = elim (cases_Bool (int_eq a.0.0 a.0.1)) [
  | inl t ↦ rw (t, (Decides-int_eq a.0.0 a.0.1).0 t) (omega (arith, ints, net_of_two v rest fs))
  | inr t ↦ rw t (omega (arith, ints, net_of_two v rest fs))
]

module _ (supplies : List (ℤ × ℤ)) (G H : Graph CostArc)
    (bundles : (p : ℤ × ℤ) → p.0 ≢ p.1 → SameCurve (bundle p G.arcs) (bundle p H.arcs))
    (loops : (v k : ℤ) → LeastOverall (bundle (v, v) G.arcs) k → LeastOverall (bundle (v, v) H.arcs) k) where
  -- each bundle carries what the bundle of its pair carries, or is of self-loops and costs no more
  carry : (p : ℤ × ℤ) (zs : List ℤ) → CostShares (bundle p G.arcs) zs
      → Carried cost_low cost_high spent (joins_two p) (bundle p G.arcs) (bundle p H.arcs) zs
  carry p zs h = elim (cases_Bool (int_eq p.0 p.1)) [
    | inl e ↦
        let q : (p.0, p.0) ≡ p = ap (λ (z : ℤ). (p.0, z)) ((Decides-int_eq p.0 p.1).0 e) in
        rw e (loops_carry (bundle p G.arcs) (bundle p H.arcs) (rw q at (loops p.0)) zs h)
    | inr e ↦
        let two = not_from_Decides (int_eq p.0 p.1) (Decides-int_eq p.0 p.1) e in
        rw e (costs_carry (bundle p G.arcs) (bundle p H.arcs) (bundles p two) zs h)
  ]

  -- each feasible flow of G has one of H that costs no more
  loops_cover : Covers supplies G H
  loops_cover = record {
    at = λ flow f.
        (let m = matched cost_low cost_high spent joins_two G.arcs H.arcs carry flow f.within in
        record {
          flow = m.flow;
          is = record {
            within = m.within;
            balanced = λ v.
                (let out = m.units (leaves v) (λ p e. (and_parts (joins_two p) (int_eq p.0 v) e).0) in
                let into = m.units (enters v) (λ p e. (and_parts (joins_two p) (int_eq p.1 v) e).0) in
                omega (arith, ints, net_of_two v G.arcs flow, net_of_two v H.arcs m.flow, f.balanced v));
          };
          within = no_costlier G.arcs H.arcs flow m.flow (m.cost_is (λ p. true));
        });
  }

module _ (supplies : List (ℤ × ℤ)) (G H : Graph CostArc) (s : SameButForLoops G H) where
  there : Covers supplies G H
  there = loops_cover supplies G H s.bundles (λ v k. (s.loops v k).0)

  back : Covers supplies H G
  back =
      loops_cover supplies H G
      (λ p differ.
      curve_meaning.same_sym (bundle p G.arcs) (bundle p H.arcs) (s.bundles p differ))
      (λ v k. (s.loops v k).1)

  pub loop_cost_bounds : (bound : ℤ) → HasFlowWithin supplies G bound ↔ HasFlowWithin supplies H bound
  loop_cost_bounds = covered_bounds supplies G H there back

  pub loop_cost_least : (cost : ℤ) → IsLeastCost supplies G cost ↔ IsLeastCost supplies H cost
  loop_cost_least = covered_least supplies G H there back
