-- The arcs of a problem mean the same as arcs of form 1. Their meaning determines their forced units, the cost of
-- these, their free capacity by cost, and their number of entries.
use Rattle.std.proofs.Common.{◌≡◌, suc, ◌+◌, ℤ, pos, ◌*ℤ◌, ◌≤ℤ◌, ◌<ℤ◌, Bool, true, false, ◌||◌, List, [], ◌∷◌, length, cond, filter, map, int_lt, refl, sym, ap, arith, ◌∙◌, inl, inr, int_cmp, int_eq, is_eq, Less, Equal, Greater}
use Rattle.std.proofs.lemmas.Int.{ints, by_lt_z}
use Rattle.std.proofs.lemmas.Cmp.{int_ranked, by_ranked}
use Rattle.std.specs.List.{AllByRecursion, list_any}
use Rattle.std.specs.Int.Signed.{≤ℤ_refl}
use Rattle.dn_arc_theory.specs.declared.arc.CostArc.{CostArc}
use Rattle.dn_arc_theory.specs.declared.arc.Form.TheVariants.{One}
use Rattle.dn_arc_theory.specs.Meanings.{SameCurve}
use Rattle.dn_arc_theory.specs.Canonical.{IsCostArc, has_low}
use Rattle.dn_arc_theory.specs.Entries.{distinct, has_room, cost_entries}
use Rattle.dn_arc_theory.specs.Fillings.{forced_units, forced_cost}
use Rattle.dn_arc_theory.specs.State.FillCosts.{room}
use Rattle.dn_arc_theory.specs.State.Steps.{put_step, has_step, AreSteps}
use Rattle.dn_arc_theory.specs.State.CurveListed.{free_arc, step_arc, listed}
use Rattle.dn_arc_theory.proofs.SplitsLaws.{SameAbove}
use Rattle.dn_arc_theory.proofs.CurvesLaws.{above_meaning, curve_meaning}
use Rattle.dn_arc_theory.proofs.OrdersLaws.{at_end}
use Rattle.dn_arc_theory.proofs.PartsLaws.{test_yes, test_no}
use Rattle.std.proofs.lemmas.Bool.{cases_Bool}
use Rattle.dn_arc_theory.proofs.FormsLaws.{form_one_ordered}
use Rattle.dn_arc_theory.proofs.FormOneLaws.{same_fill, same_free, free_same}
use Rattle.dn_arc_theory.proofs.AddsLaws.{above_none}
use Rattle.dn_arc_theory.proofs.StepArcsLaws.{by_put, CostsAbove, costs_lower, free_arcs, put_steps, put_above}
use Rattle.dn_arc_theory.proofs.ListedLaws.{listed_one, listed_apart, listed_units, listed_cost}
use Rattle.dn_arc_theory.proofs.SoundLaws.{listed_added}

-- the breakpoints of arcs: their free capacity by ascending cost
abbrev pub arc_steps : List CostArc → List (ℤ × ℤ)
arc_steps [] = []
arc_steps (a ∷ rest) = cond (int_lt a.low a.cap) (put_step (arc_steps rest) (a.cost, room a)) (arc_steps rest)

-- the canonical arcs of form 1
abbrev pub canon : List CostArc → List CostArc
canon arcs = listed One (forced_units arcs) (forced_cost arcs) (arc_steps arcs)

arc_steps_are : (arcs : List CostArc) → AreSteps (arc_steps arcs)
arc_steps_are [] = tt
arc_steps_are (a ∷ rest) =
    by_lt_z a.low a.cap (λ lt. simp test_yes (put_steps _ _ (omega (arith, ints)) (arc_steps_are rest)))
    (λ le. simp test_no (arc_steps_are rest))

units_some : (arcs : List CostArc) → AllByRecursion IsCostArc arcs → pos 0 ≤ℤ forced_units arcs
units_some [] h = ≤ℤ_refl _
units_some (a ∷ rest) h = omega (arith, ints, units_some rest h.1)

none_forced : (arcs : List CostArc) → AllByRecursion IsCostArc arcs → forced_units arcs ≡ pos 0
    → forced_cost arcs ≡ pos 0
none_forced [] h e = refl
none_forced (a ∷ rest) h e =
    let left = units_some rest h.1 in
    let none : a.low ≡ pos 0 = omega (arith, ints) in
    omega (arith, ints, ap (λ z. a.cost *ℤ z) none, none_forced rest h.1 (omega (arith, ints)))

canon_same : (arcs : List CostArc) → AllByRecursion IsCostArc arcs → SameCurve (canon arcs) arcs
canon_same [] h = curve_meaning.same_refl []
canon_same (a ∷ rest) h =
    let steps = arc_steps rest in
    let more : SameAbove (map step_arc (arc_steps (a ∷ rest))) (free_arc a.cost (room a) ∷ map step_arc steps) =
    by_lt_z a.low a.cap
    (λ lt. rw test_yes (put_above _ (a.cost, room a) (omega (arith, ints)) (arc_steps_are rest)))
    (λ le. rw test_no (above_meaning.same_sym _ _ (above_none a.cost (room a) _ (omega (arith, ints))))) in
    let added =
    listed_added _ _ (forced_units (a ∷ rest)) (forced_cost (a ∷ rest)) (arc_steps rest) (arc_steps (a ∷ rest)) a
    (units_some rest h.1) (none_forced rest h.1) (arc_steps_are rest) (units_some (a ∷ rest) h)
    (none_forced (a ∷ rest) h) (arc_steps_are (a ∷ rest)) (omega (arith, ints)) (omega (arith, ints)) more in
    curve_meaning.same_trans _ _ _ added
    (curve_meaning.same_trans _ _ _ (at_end SameCurve curve_meaning (canon rest) a)
    (curve_meaning.same_more a _ _ (canon_same rest h.1)))

back : (steps : List (ℤ × ℤ)) → map (λ (a : CostArc). (a.cost, a.cap)) (map step_arc steps) ≡ steps
back [] = refl
back (step ∷ rest) = ap (λ l. step ∷ l) (back rest)

-- what the meaning determines: the forced units, their cost, and the breakpoints
pub record IsSameCanon (xs ys : List CostArc) : Type 0 where
  pub units : forced_units xs ≡ forced_units ys
  pub cost : forced_cost xs ≡ forced_cost ys
  pub steps : arc_steps xs ≡ arc_steps ys

pub same_canon : (xs ys : List CostArc) → AllByRecursion IsCostArc xs → AllByRecursion IsCostArc ys → SameCurve xs ys
    → IsSameCanon xs ys
same_canon xs ys h g s =
    let p = form_one_ordered (canon xs) (listed_one _ _ _ (units_some xs h) (none_forced xs h) (arc_steps_are xs)) in
    let q = form_one_ordered (canon ys) (listed_one _ _ _ (units_some ys g) (none_forced ys g) (arc_steps_are ys)) in
    let same = curve_meaning.same_trans _ _ _ s (curve_meaning.same_sym _ _ (canon_same ys g)) in
    let t = same_fill (canon xs) (canon ys) p q (curve_meaning.same_trans _ _ _ (canon_same xs h) same) in
    let a = listed_apart _ _ _ (units_some xs h) (none_forced xs h) (arc_steps_are xs) in
    let b = listed_apart _ _ _ (units_some ys g) (none_forced ys g) (arc_steps_are ys) in
    let f = free_same _ _ (free_arcs _ (arc_steps_are xs)) (free_arcs _ (arc_steps_are ys)) (same_free a b t) in
    record {
      units = sym (units_of xs h) ∙ t.units ∙ units_of ys g;
      cost = sym (cost_of xs h) ∙ t.cost ∙ cost_of ys g;
      steps = sym (back (arc_steps xs)) ∙ ap (map (λ (a : CostArc). (a.cost, a.cap))) f ∙ back (arc_steps ys);
    }
  where
    units_of : (arcs : List CostArc) → AllByRecursion IsCostArc arcs → forced_units (canon arcs) ≡ forced_units arcs
    units_of arcs h = listed_units _ _ _ (units_some arcs h) (none_forced arcs h) (arc_steps_are arcs)

    cost_of : (arcs : List CostArc) → AllByRecursion IsCostArc arcs → forced_cost (canon arcs) ≡ forced_cost arcs
    cost_of arcs h = listed_cost _ _ _ (units_some arcs h) (none_forced arcs h) (arc_steps_are arcs)

-- a case distinction by the order of two numbers
pub by_cmp : {G : Type 0} (a b : ℤ) → (int_cmp a b ≡ Less → a <ℤ b → G) → (int_cmp a b ≡ Equal → a ≡ b → G)
    → (int_cmp a b ≡ Greater → b <ℤ a → G) → G
by_cmp a b f g h = by_ranked (a <ℤ b) (a ≡ b) (b <ℤ a) (int_cmp a b) (int_ranked a b (int_cmp a b) refl) f g h

pub eq_yes : (a b : ℤ) → a ≡ b → int_eq a b ≡ true
eq_yes a b e =
    by_cmp a b (λ c lt. absurd (omega (arith, ints))) (λ c eq. ap is_eq c) (λ c gt. absurd (omega (arith, ints)))

pub eq_below : (a b : ℤ) → a <ℤ b → int_eq a b ≡ false
eq_below a b h = by_cmp a b (λ c lt. ap is_eq c) (λ c eq. absurd (omega (arith, ints))) (λ c gt. ap is_eq c)

pub eq_past : (a b : ℤ) → b <ℤ a → int_eq a b ≡ false
eq_past a b h = by_cmp a b (λ c lt. ap is_eq c) (λ c eq. absurd (omega (arith, ints))) (λ c gt. ap is_eq c)

or_swap : (a b c : Bool) → (a || (b || c)) ≡ (b || (a || c))
or_swap a b c = grind arith

-- a cost has capacity after an insertion exactly if it had capacity before or is the inserted cost
has_put : (steps : List (ℤ × ℤ)) (more : ℤ × ℤ) (c : ℤ)
    → has_step (put_step steps more) c ≡ (int_eq c more.0 || has_step steps c)
has_put [] more c = refl
has_put (step ∷ rest) more c =
    by_put (λ l. has_step l c ≡ (int_eq c more.0 || has_step (step ∷ rest) c)) step rest more (λ lt. refl)
    (λ gt. rw (has_put rest more c) (or_swap (int_eq c step.0) (int_eq c more.0) (has_step rest c)))
    (λ eq. rw eq (elim (cases_Bool (int_eq c step.0)) [ inl t ↦ rw t | inr t ↦ rw t ]))

-- breakpoints above a cost have no capacity at it
pub none_has : (c : ℤ) (steps : List (ℤ × ℤ)) → CostsAbove c steps → has_step steps c ≡ false
none_has c [] h = refl
none_has c (step ∷ rest) h = rw (eq_below c step.0 h.0) (none_has c rest h.1)

-- an insertion adds one breakpoint, unless there was one at this cost
pub length_put : (steps : List (ℤ × ℤ)) (more : ℤ × ℤ) → AreSteps steps
    → length (put_step steps more) ≡ cond (has_step steps more.0) (length steps) (suc (length steps))
length_put [] more s = refl
length_put (step ∷ rest) more s =
    by_put (λ l. length l ≡ cond (has_step (step ∷ rest) more.0) (length (step ∷ rest)) (suc (length (step ∷ rest))))
    step rest more
    (λ lt. rw (none_has more.0 (step ∷ rest) (lt, costs_lower more.0 step.0 rest lt s.1)))
    (λ gt. rw (eq_past more.0 step.0 gt, length_put rest more s.2)
    (elim (cases_Bool (has_step rest more.0)) [ inl t ↦ rw t | inr t ↦ rw t ]))
    (λ eq. rw (eq_yes more.0 step.0 eq))

abbrev pub costs_of : List CostArc → List ℤ
costs_of arcs = map (λ (a : CostArc). a.cost) (filter has_room arcs)

-- a cost has a breakpoint exactly if an arc of this cost has free capacity
has_cost : (arcs : List CostArc) (c : ℤ) → list_any (int_eq c) (costs_of arcs) ≡ has_step (arc_steps arcs) c
has_cost [] c = refl
has_cost (a ∷ rest) c =
    elim (cases_Bool (int_lt a.low a.cap)) [
      | inl t ↦ rw (t, has_cost rest c, has_put (arc_steps rest) (a.cost, room a) c)
      | inr t ↦ rw t (has_cost rest c)
    ]

-- there are as many breakpoints as different costs of arcs with free capacity
pub count_costs : (arcs : List CostArc) → length (distinct int_eq (costs_of arcs)) ≡ length (arc_steps arcs)
count_costs [] = refl
count_costs (a ∷ rest) =
    elim (cases_Bool (int_lt a.low a.cap)) [
      | inl t ↦ rw (t, has_cost rest a.cost, length_put (arc_steps rest) (a.cost, room a) (arc_steps_are rest))
          (elim (cases_Bool (has_step (arc_steps rest) a.cost)) [
            | inl u ↦ rw u (count_costs rest)
            | inr u ↦ rw u (ap suc (count_costs rest))
          ])
      | inr t ↦ rw t (count_costs rest)
    ]

any_low : (arcs : List CostArc) → AllByRecursion IsCostArc arcs
    → list_any has_low arcs ≡ int_lt (pos 0) (forced_units arcs)
any_low [] h = refl
any_low (a ∷ rest) h =
    let left = units_some rest h.1 in
    by_lt_z (pos 0) a.low
    (λ lt. rw (test_yes (pos 0) a.low lt, test_yes (pos 0) (forced_units (a ∷ rest)) (omega (arith, ints))))
    (λ le.
    let same : forced_units (a ∷ rest) ≡ forced_units rest = omega (arith, ints) in
    rw (test_no (pos 0) a.low le, same) (any_low rest h.1))

-- the entries are one for forced units, if there are any, and one for each breakpoint
pub entries_are : (arcs : List CostArc) → AllByRecursion IsCostArc arcs
    → cost_entries arcs ≡ cond (int_lt (pos 0) (forced_units arcs)) 1 0 + length (arc_steps arcs)
entries_are arcs h = rw (any_low arcs h, count_costs arcs)

pub entries_same : (xs ys : List CostArc) → AllByRecursion IsCostArc xs → AllByRecursion IsCostArc ys → SameCurve xs ys
    → cost_entries xs ≡ cost_entries ys
entries_same xs ys h g s =
    let c = same_canon xs ys h g s in
    rw (entries_are xs h, entries_are ys g, c.units, c.steps)

-- arcs that make no entries mean the same as no arcs
pub no_curve : (arcs : List CostArc) → AllByRecursion IsCostArc arcs → cost_entries arcs ≡ 0 → SameCurve arcs []
no_curve arcs h e =
    let some = units_some arcs h in
    let all = sym (entries_are arcs h) ∙ e in
    let none : forced_units arcs ≡ pos 0 =
    by_lt_z (pos 0) (forced_units arcs)
    (λ lt. absurd (omega (arith, rw (test_yes (pos 0) (forced_units arcs) lt) at all))) (λ le. omega (arith, ints)) in
    let steps : arc_steps arcs ≡ [] = no_steps (arc_steps arcs) (omega (arith, all)) in
    let is : canon arcs ≡ [] = rw (none, steps) in
    rw is at (curve_meaning.same_sym _ _ (canon_same arcs h))
  where
    no_steps : (l : List (ℤ × ℤ)) → length l ≡ 0 → l ≡ []
    no_steps [] z = refl
    no_steps (x ∷ l) z = cc
