-- How many canonical arcs form 2 has: one for each breakpoint, and one more for each fixed arc without a breakpoint at
-- its cost.
use Rattle.std.proofs.Common.{◌≡◌, ℕ, ◌+◌, ℤ, pos, ◌+ℤ◌, ◌<ℤ◌, Bool, false, List, [], ◌∷◌, map, length, refl, ap, ◌∙◌, arith, cond, int_eq}
use Rattle.std.specs.List.{list_any}
use Rattle.std.proofs.lemmas.Int.{ints}
use Rattle.std.proofs.lemmas.List.{length-map}
use Rattle.dn_arc_theory.specs.declared.arc.CostArc.{CostArc}
use Rattle.dn_arc_theory.specs.declared.arc.Form.TheVariants.{Two}
use Rattle.dn_arc_theory.specs.Canonical.{AreAscending}
use Rattle.dn_arc_theory.specs.State.Steps.{has_step}
use Rattle.dn_arc_theory.specs.State.CurveListed.{fixed_arc, step_arc, fixed_arcs, join_arc, listed, IsSound}
use Rattle.dn_arc_theory.proofs.FormsLaws.{AreAbove, above_lower}
use Rattle.dn_arc_theory.proofs.StepArcsLaws.{free_arcs}
use Rattle.dn_arc_theory.proofs.JoinsLaws.{joined_ascending}
use Rattle.dn_arc_theory.proofs.CanonsLaws.{eq_yes, eq_below, eq_past}
use Rattle.dn_bundle.proofs.FormLaws.{by_order, join_before, join_past, join_at}

-- 0 if the test holds, and 1 otherwise
abbrev pub one_unless : Bool → ℕ
one_unless b = cond b 0 1

-- whether an arc has this cost
abbrev has_arc : List CostArc → ℤ → Bool
has_arc arcs c = list_any (λ (b : CostArc). int_eq c b.cost) arcs

has_steps : (steps : List (ℤ × ℤ)) (c : ℤ) → has_arc (map step_arc steps) c ≡ has_step steps c
has_steps [] c = refl
has_steps (step ∷ rest) c = rw (has_steps rest c)

none_has : (c : ℤ) (arcs : List CostArc) → AreAbove c arcs → has_arc arcs c ≡ false
none_has c [] h = refl
none_has c (b ∷ rest) h = rw (eq_below c b.cost h.0) (none_has c rest h.1)

-- inserting an arc of another cost does not change whether an arc has this cost
has_other : (c : ℤ) (a : CostArc) (arcs : List CostArc) → c <ℤ a.cost → has_arc (join_arc a arcs) c ≡ has_arc arcs c
has_other c a [] h = rw (eq_below c a.cost h)
has_other c a (b ∷ rest) h =
    by_order a.cost b.cost (λ lt. rw (join_before a b rest lt, eq_below c a.cost h)) (λ eq. rw (join_at a b rest eq))
    (λ gt. rw (join_past a b rest gt, has_other c a rest h))

-- inserting an arc adds one arc, unless there is one of its cost
count_join : (a : CostArc) (arcs : List CostArc) → AreAscending arcs
    → length (join_arc a arcs) ≡ length arcs + one_unless (has_arc arcs a.cost)
count_join a [] r = refl
count_join a (b ∷ rest) r =
    by_order a.cost b.cost
    (λ lt.
    let none = none_has a.cost (b ∷ rest) (lt, above_lower a.cost b.cost rest lt r.0) in
    rw (join_before a b rest lt, none) (omega arith))
    (λ eq. rw (join_at a b rest eq, eq_yes a.cost b.cost eq) (omega arith))
    (λ gt. rw (join_past a b rest gt, eq_past a.cost b.cost gt) (omega (arith, count_join a rest r.1)))

-- how many arcs form 2 has, by its fixed arcs
module _ (units cost total : ℤ) (steps : List (ℤ × ℤ)) (s : IsSound units cost total steps) (len : ℕ)
    (len_is : len ≡ length steps) where
  steps_len : length (map step_arc steps) ≡ length steps
  steps_len = length-map steps step_arc

  pub len_with_one : (u c : ℤ) (more : ℕ) → fixed_arc u c ∷ [] ≡ fixed_arcs units cost
      → more ≡ one_unless (has_step steps c) → len + more ≡ length (listed Two units cost steps)
  len_with_one u c more e m =
      let n = count_join (fixed_arc u c) (map step_arc steps) (free_arcs steps s.ascending).ascending in
      rw (← e) (omega (arith, n, ap one_unless (has_steps steps c), steps_len, m, len_is))

  pub len_with_two : (u c v : ℤ) (more next : ℕ) → fixed_arc u c ∷ fixed_arc v (c +ℤ pos 1) ∷ [] ≡ fixed_arcs units cost
      → more ≡ one_unless (has_step steps c) → next ≡ one_unless (has_step steps (c +ℤ pos 1))
      → (len + more) + next ≡ length (listed Two units cost steps)
  len_with_two u c v more next e m w =
      let free = map step_arc steps in
      let a = fixed_arc u c in
      let b = fixed_arc v (c +ℤ pos 1) in
      let ascending = (free_arcs steps s.ascending).ascending in
      let inner = count_join b free ascending in
      let outer = count_join a (join_arc b free) (joined_ascending b free ascending) in
      let h = ap one_unless (has_steps steps (c +ℤ pos 1)) in
      let up : c <ℤ (c +ℤ pos 1) = omega (arith, ints) in
      let g = ap one_unless (has_other c b free up ∙ has_steps steps c) in
      rw (← e) (omega (arith, inner, outer, h, g, steps_len, m, w, len_is))
