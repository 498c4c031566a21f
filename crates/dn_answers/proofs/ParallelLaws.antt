-- The problem that parallel arcs pose alone has their least length, their total capacity or their least cost as its
-- answer.
use Rattle.std.proofs.Common.{inl, inr, sym, arith, ◌∙◌}
use Rattle.std.proofs.lemmas.Int.{ints}
use Rattle.std.proofs.lemmas.Bool.{cases_Bool, false_from_ne_true}
use Rattle.std.proofs.lemmas.Bool.Decides.{Decides-int_eq}
use Rattle.std.specs.Prelude.{◌≡◌, ◌≢◌, ◌↔◌, ℤ, pos, ◌+ℤ◌, ◌-ℤ◌, ◌≤ℤ◌, List, [], ◌∷◌, map, Bool, true, false, cond, refl}
use Rattle.std.specs.List.{AllByRecursion}
use Rattle.std.specs.Int.Signed.{≤ℤ_refl}
use Rattle.std.specs.Ordering.{int_eq}
use Rattle.dn_arc_theory.specs.declared.arc.LengthArc.{LengthArc}
use Rattle.dn_arc_theory.specs.declared.arc.CapArc.{CapArc}
use Rattle.dn_arc_theory.specs.declared.arc.CostArc.{CostArc}
use Rattle.dn_arc_theory.specs.Lengths.{HasLength, LeastLength}
use Rattle.dn_arc_theory.specs.Capacities.{total_cap}
use Rattle.dn_arc_theory.specs.Splits.{IsSplit, cost_of, LeastCost}
use Rattle.dn_arc_theory.specs.Meanings.{SameLength, SameTotal, SameCurve}
use Rattle.dn_arc_theory.specs.Canonical.{IsCapArc}
use Rattle.dn_instance.specs.Validity.{IsNode}
use Rattle.dn_answers.specs.Walks.{IsAmong, IsWalk, walk_length, IsDistance}
use Rattle.dn_answers.specs.Flows.{IsWithin, units_on, net_outflow}
use Rattle.dn_answers.specs.MaxFlows.{HasValue, IsGreatestValue}
use Rattle.dn_answers.specs.MinCostFlows.{listed_supply, IsFeasible, flow_cost, IsLeastCost}
use Rattle.dn_answers.specs.Parallel.{parallel, supplies_for}
use Rattle.dn_answers.proofs.AssemblyLaws.{Shares, weight}
use Rattle.dn_answers.proofs.CarryLaws.{units, cap_low, cap_high, cap_most, some_total, filled, cost_low, cost_high, cost_shares, units_total}
use Rattle.dn_answers.proofs.SumLaws.{cond_none, cond_add}
use Rattle.dn_answers.proofs.WalkLaws.{found_in, no_shorter}
use Rattle.dn_arc_theory.specs.Pairs.{bundle}
use Rattle.dn_arc_theory.proofs.PairLaws.{pair_self}
use Rattle.dn_arc_theory.proofs.SplitsLaws.{antisym}

-- the arcs as arcs of p
abbrev placed : {Arc : Type 0} → ℤ × ℤ → List Arc → List ((ℤ × ℤ) × Arc)
placed p arcs = map (λ a. (p, a)) arcs

module _ (p : ℤ × ℤ) where
  bundle_placed : (xs : List LengthArc) → bundle p (placed p xs) ≡ xs
  bundle_placed [] = refl
  bundle_placed (x ∷ xs) = rw (pair_self p, bundle_placed xs)

  -- an arc of the graph is of the pair p, and one of the arcs has its length
  of_among : (xs : List LengthArc) (a : (ℤ × ℤ) × LengthArc) → IsAmong a (placed p xs)
      → (a.0 ≡ p) × HasLength xs a.1.length
  of_among [] a h = absurd h
  of_among (x ∷ xs) a (inl e) = rw e (refl, inl refl)
  of_among (x ∷ xs) a (inr h) = let o = of_among xs a h in (o.0, inr o.1)

  each_of : (P : LengthArc → Type 0) (xs : List LengthArc)
      → ((x : LengthArc) → IsAmong (p, x) (placed p xs) → P x) → AllByRecursion P xs
  each_of P [] h = tt
  each_of P (x ∷ xs) h = (h x (inl refl), each_of P xs (λ y a. h y (inr a)))

-- units on parallel arcs are chosen all or none
chosen_units : {Arc : Type 0} (chosen : ℤ × ℤ → Bool) (p : ℤ × ℤ) (xs : List Arc) (flow : List ℤ)
    → units_on chosen (placed p xs) flow ≡ cond (chosen p) (weight units xs flow) (pos 0)
chosen_units chosen p [] flow = rw (cond_none (chosen p))
chosen_units chosen p (x ∷ xs) [] = rw (cond_none (chosen p))
chosen_units chosen p (x ∷ xs) (f ∷ flow) =
    rw (cond_add (chosen p) f (weight units xs flow), chosen_units chosen p xs flow)

-- the net outflow of a node beside parallel arcs
parallel_net_outflow : {Arc : Type 0} (p : ℤ × ℤ) (xs : List Arc) (flow : List ℤ) (v : ℤ)
    → net_outflow v (placed p xs) flow ≡ cond (int_eq p.0 v) (weight units xs flow) (pos 0)
    -ℤ cond (int_eq p.1 v) (weight units xs flow) (pos 0)
parallel_net_outflow p xs flow v =
    rw (chosen_units (λ q. int_eq q.0 v) p xs flow, chosen_units (λ q. int_eq q.1 v) p xs flow)

pub eq_self : (z : ℤ) → int_eq z z ≡ true
eq_self z = (Decides-int_eq z z).1 refl

pub not_eq : (a b : ℤ) → b ≢ a → int_eq a b ≡ false
not_eq a b n = false_from_ne_true (int_eq a b) (λ e. n (sym ((Decides-int_eq a b).0 e)))

-- the net outflow of the tail
tail_net_outflow : {Arc : Type 0} (p : ℤ × ℤ) (xs : List Arc) (flow : List ℤ) → p.0 ≢ p.1
    → net_outflow p.0 (placed p xs) flow ≡ weight units xs flow
tail_net_outflow p xs flow differ =
    omega (arith, ints, rw (eq_self p.0, not_eq p.1 p.0 differ) at (parallel_net_outflow p xs flow p.0))

shares_of : {Arc : Type 0} (low cap : Arc → ℤ) (p : ℤ × ℤ) (xs : List Arc) (flow : List ℤ)
    → IsWithin low cap (placed p xs) flow ↔ Shares low cap xs flow
shares_of low cap p [] [] = (λ h. h, λ h. h)
shares_of low cap p [] (f ∷ flow) = (λ h. h, λ h. h)
shares_of low cap p (x ∷ xs) [] = (λ h. h, λ h. h)
shares_of low cap p (x ∷ xs) (f ∷ flow) =
    let i = shares_of low cap p xs flow in (λ h. (h.0, h.1, i.0 h.2), λ h. (h.0, h.1, i.1 h.2))

parallel_cost : (p : ℤ × ℤ) (xs : List CostArc) (flow : List ℤ) → flow_cost (placed p xs) flow ≡ cost_of xs flow
parallel_cost p [] flow = refl
parallel_cost p (x ∷ xs) [] = refl
parallel_cost p (x ∷ xs) (f ∷ flow) = rw (parallel_cost p xs flow)

-- statements are equivalent if they are equivalent to statements that are, and the other way round
module _ {A B C D : Type 0} (f : A ↔ B) (g : C ↔ D) where
  pub through : B ↔ D → A ↔ C
  through h = (λ a. g.1 (h.0 (f.0 a)), λ c. f.1 (h.1 (g.0 c)))

  pub onto : A ↔ C → B ↔ D
  onto h = (λ b. g.0 (h.0 (f.1 b)), λ d. f.0 (h.1 (g.1 d)))

module _ (n : ℤ) (p : ℤ × ℤ) (differ : p.0 ≢ p.1) where
  -- a walk from p.0 to p.1 has the length of one of the arcs
  pub one_arc : (xs : List LengthArc) (walk : List ((ℤ × ℤ) × LengthArc)) → IsWalk (parallel n p xs) p.0 p.1 walk
      → HasLength xs (walk_length walk)
  one_arc xs [] w = absurd (differ w.leads)
  one_arc xs (a ∷ []) w =
      let e : a.1.length +ℤ pos 0 ≡ a.1.length = omega (arith, ints) in rw e (of_among p xs a w.arcs.0).1
  one_arc xs (a ∷ b ∷ walk) w =
      let o = of_among p xs a w.arcs.0 in
      let q = of_among p xs b w.arcs.1.0 in
      absurd (differ (rw (q.0, o.0) at w.leads.1.0))

  arc_walk : (xs : List LengthArc) → IsNode n p.0 → (a : (ℤ × ℤ) × LengthArc) → IsAmong a (placed p xs) → a.0 ≡ p
      → IsWalk (parallel n p xs) p.0 p.1 (a ∷ [])
  arc_walk xs node a h e = record { start = node; arcs = (h, tt); leads = rw e (refl, refl) }

  pub length_alone : (xs : List LengthArc) → IsNode n p.0 → (d : ℤ)
      → IsDistance (parallel n p xs) p.0 p.1 d ↔ LeastLength xs d
  length_alone xs node d = (
    λ m. record {
      has = rw m.length at (one_arc xs m.walk m.is);
      least = each_of p (λ x. d ≤ℤ x.length) xs (λ x a.
          omega (arith, ints, m.least ((p, x) ∷ []) (arc_walk xs node (p, x) a refl)));
    },
    λ l.
        (let f = found_in p d (placed p xs) (rw (bundle_placed p xs) l.has) in
        record {
          walk = f.arc ∷ [];
          is = arc_walk xs node f.arc f.among f.pair;
          length = omega (arith, ints, f.length);
          least = λ other w. no_shorter xs (walk_length other) d l.least (one_arc xs other w);
        }),
  )

  -- a value is that of units on the arcs
  value_most : (xs : List CapArc) (x : ℤ) → HasValue p.0 p.1 (parallel n p xs) x → x ≤ℤ total_cap xs
  value_most xs x h =
      let most = cap_most xs h.flow ((shares_of cap_low cap_high p xs h.flow).0 h.is.within) in
      omega (arith, ints, tail_net_outflow p xs h.flow differ, h.value_is)

  has_total : (xs : List CapArc) → AllByRecursion IsCapArc xs → HasValue p.0 p.1 (parallel n p xs) (total_cap xs)
  has_total xs caps =
      let f = filled xs (total_cap xs) caps (some_total xs caps) (≤ℤ_refl (total_cap xs)) in
      record {
        flow = f.split;
        is = record {
          within = (shares_of cap_low cap_high p xs f.split).1 f.shares;
          conserved = λ v g h. parallel_net_outflow p xs f.split v ∙ rw (not_eq p.0 v g, not_eq p.1 v h);
        };
        value_is = tail_net_outflow p xs f.split differ ∙ f.sum;
      }

  pub capacity_alone : (xs : List CapArc) → AllByRecursion IsCapArc xs → (x : ℤ)
      → IsGreatestValue p.0 p.1 (parallel n p xs) x ↔ (total_cap xs ≡ x)
  capacity_alone xs caps x = (
    λ m. antisym (total_cap xs) x (m.greatest (total_cap xs) (has_total xs caps)) (value_most xs x m.has),
    λ e. rw (← e) (record { has = has_total xs caps; greatest = value_most xs }),
  )

  pub split_of : (xs : List CostArc) (x : ℤ) (flow : List ℤ) → IsFeasible (supplies_for p x) (parallel n p xs) flow
      → IsSplit xs x flow
  split_of xs x flow f =
      let shares = (cost_shares xs flow).0 ((shares_of cost_low cost_high p xs flow).0 f.within) in
      let g = rw (eq_self p.0) at (f.balanced p.0) in
      record { shares = shares; whole = sym (units_total xs flow shares) ∙ sym (tail_net_outflow p xs flow differ) ∙ g }

  feasible_of : (xs : List CostArc) (x : ℤ) (flow : List ℤ) → IsSplit xs x flow
      → IsFeasible (supplies_for p x) (parallel n p xs) flow
  feasible_of xs x flow s = record {
    within = (shares_of cost_low cost_high p xs flow).1 ((cost_shares xs flow).1 s.shares);
    balanced = λ v.
        parallel_net_outflow p xs flow v ∙ rw (units_total xs flow s.shares ∙ s.whole) (by_tests v);
  }
    where
      by_tests : (v : ℤ)
          → cond (int_eq p.0 v) x (pos 0) -ℤ cond (int_eq p.1 v) x (pos 0) ≡ listed_supply (supplies_for p x) v
      by_tests v = elim (cases_Bool (int_eq p.0 v)) [
        | inl a ↦ rw (a, not_eq p.1 v (λ e. differ ((Decides-int_eq p.0 v).0 a ∙ e))) (omega (arith, ints))
        | inr a ↦ rw a (elim (cases_Bool (int_eq p.1 v)) [ inl b ↦ rw b | inr b ↦ rw b ])
      ]

  pub cost_alone : (xs : List CostArc) (x k : ℤ)
      → IsLeastCost (supplies_for p x) (parallel n p xs) k ↔ LeastCost xs x k
  cost_alone xs x k = (
    λ m. record {
      split = m.flow;
      is = split_of xs x m.flow m.is;
      costs = sym (parallel_cost p xs m.flow) ∙ m.cost_is;
      least = λ ys s. rw (parallel_cost p xs ys) at (m.least ys (feasible_of xs x ys s));
    },
    λ l. record {
      flow = l.split;
      is = feasible_of xs x l.split l.is;
      cost_is = parallel_cost p xs l.split ∙ l.costs;
      least = λ ys f. rw (parallel_cost p xs ys) (l.least ys (split_of xs x ys f));
    },
  )

  pub lengths_apart : (xs ys : List LengthArc) → IsNode n p.0
      → SameLength xs ys ↔ ((d : ℤ)
      → IsDistance (parallel n p xs) p.0 p.1 d ↔ IsDistance (parallel n p ys) p.0 p.1 d)
  lengths_apart xs ys node =
      let here = length_alone xs node in
      let there = length_alone ys node in (
        λ s d. through (here d) (there d) (s.there d, s.back d),
        λ f. record { there = λ d. (onto (here d) (there d) (f d)).0; back = λ d. (onto (here d) (there d) (f d)).1 },
      )

  pub capacities_apart : (xs ys : List CapArc) → AllByRecursion IsCapArc xs → AllByRecursion IsCapArc ys
      → SameTotal xs ys ↔ ((x : ℤ)
      → IsGreatestValue p.0 p.1 (parallel n p xs) x ↔ IsGreatestValue p.0 p.1 (parallel n p ys) x)
  capacities_apart xs ys g h =
      let here = capacity_alone xs g in
      let there = capacity_alone ys h in (
        λ s x. through (here x) (there x) (λ e. sym s.is ∙ e, λ e. s.is ∙ e),
        λ f. record { is = sym ((onto (here (total_cap xs)) (there (total_cap xs)) (f (total_cap xs))).0 refl) },
      )

  pub costs_apart : (xs ys : List CostArc)
      → SameCurve xs ys ↔ ((x k : ℤ)
      → IsLeastCost (supplies_for p x) (parallel n p xs) k ↔ IsLeastCost (supplies_for p x) (parallel n p ys) k)
  costs_apart xs ys =
      let here = cost_alone xs in
      let there = cost_alone ys in (
        λ s x k. through (here x k) (there x k) (s.there x k, s.back x k),
        λ f. record {
          there = λ x k. (onto (here x k) (there x k) (f x k)).0;
          back = λ x k. (onto (here x k) (there x k) (f x k)).1;
        },
      )
