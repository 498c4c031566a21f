-- The arcs that a curve lists in form 1 are its fixed arcs, whose LOW is above 0, and then the arcs of its breakpoints.
-- They determine how many entries the curve makes. The curve means the same as no arcs exactly if its capacity is 0.
use Rattle.std.proofs.Common.{◌≡◌, ℕ, ◌+◌, ℤ, pos, ◌<ℤ◌, List, [], ◌∷◌, ◌++◌, map, filter, length, refl, sym, ap, ◌∙◌, arith, w64, of_z, cond, FitsSigned, int_lt}
use Rattle.std.specs.List.{AllByRecursion}
use Rattle.std.proofs.lemmas.Int.{ints, by_lt_z}
use Rattle.dn_arc_theory.specs.declared.arc.CostArc.{CostArc}
use Rattle.dn_arc_theory.specs.declared.arc.Form.TheVariants.{One}
use Rattle.dn_arc_theory.specs.Meanings.{SameCurve}
use Rattle.dn_arc_theory.specs.Canonical.{IsFixedArc, has_low}
use Rattle.dn_arc_theory.specs.Entries.{cost_entries, free_costs}
use Rattle.dn_arc_theory.specs.State.FillCosts.{room}
use Rattle.dn_arc_theory.specs.State.Steps.{put_step, AreSteps, steps_room}
use Rattle.dn_arc_theory.specs.State.CurveListed.{step_arc, fixed_arcs, listed, IsSound, is_free}
use Rattle.dn_arc_theory.proofs.CurvesLaws.{curve_meaning, cost_cap_same}
use Rattle.dn_arc_theory.proofs.PartsLaws.{test_yes, test_no}
use Rattle.dn_arc_theory.proofs.StepArcsLaws.{steps_some}
use Rattle.dn_arc_theory.proofs.CanonsLaws.{arc_steps, count_costs, entries_are}
use Rattle.dn_arc_theory.proofs.ListedLaws.{carried, listed_units, steps_low}
use Rattle.dn_arc_theory.proofs.SoundLaws.{none_is, sound_cap, sound_arcs}
use Rattle.dn_bundle.proofs.FixedLaws.{is_zero, not_zero}

steps_free : (steps : List (ℤ × ℤ)) → filter is_free (map step_arc steps) ≡ map step_arc steps
steps_free [] = refl
steps_free (step ∷ rest) = rw (steps_free rest)

-- of fixed arcs and the arcs of breakpoints, the fixed arcs are those with LOW above 0
record AreApart (fixed : List CostArc) (steps : List (ℤ × ℤ)) : Type 0 where
  low : filter has_low (fixed ++ map step_arc steps) ≡ fixed
  free : filter is_free (fixed ++ map step_arc steps) ≡ map step_arc steps

fixed_apart : (fixed : List CostArc) (steps : List (ℤ × ℤ)) → AllByRecursion IsFixedArc fixed → AreApart fixed steps
fixed_apart [] steps f = record { low = steps_low steps; free = steps_free steps }
fixed_apart (a ∷ fixed) steps f =
    let i = fixed_apart fixed steps f.1 in
    let t = test_yes (pos 0) a.low (omega (arith, ints)) in
    record { low = rw (t, i.low); free = rw t i.free }

put_first : (step : ℤ × ℤ) (rest : List (ℤ × ℤ)) → AllByRecursion (λ (other : ℤ × ℤ). step.0 <ℤ other.0) rest
    → put_step rest step ≡ step ∷ rest
put_first step [] h = refl
put_first step (other ∷ rest) h = rw (test_yes step.0 other.0 h.0)

-- the breakpoints of the arcs of breakpoints are the breakpoints themselves
steps_back : (steps : List (ℤ × ℤ)) → AreSteps steps → arc_steps (map step_arc steps) ≡ steps
steps_back [] s = refl
steps_back (step ∷ rest) s =
    let same : room (step_arc step) ≡ step.1 = omega (arith, ints) in
    rw (test_yes (pos 0) step.1 (omega (arith, ints)), steps_back rest s.2, same) (put_first step rest s.1)

fixed_back : (fixed : List CostArc) (steps : List (ℤ × ℤ)) → AllByRecursion IsFixedArc fixed
    → arc_steps (fixed ++ map step_arc steps) ≡ arc_steps (map step_arc steps)
fixed_back [] steps f = refl
fixed_back (a ∷ fixed) steps f = rw (test_no a.low a.cap (omega (arith, ints))) (fixed_back fixed steps f.1)

-- the numbers of a curve
module _ (units cost total : ℤ) (steps : List (ℤ × ℤ)) (s : IsSound units cost total steps) where
  both : AreApart (fixed_arcs units cost) steps
  both =
      fixed_apart (fixed_arcs units cost) steps
      (carried units cost steps s.some (none_is units cost total steps s) s.ascending).are.each

  -- the arcs with LOW above 0 are the fixed arcs
  pub low_arcs : filter has_low (listed One units cost steps) ≡ fixed_arcs units cost
  low_arcs = both.low

  -- the arcs with LOW 0 are the arcs of the breakpoints
  pub free_arcs : filter is_free (listed One units cost steps) ≡ map step_arc steps
  free_arcs = both.free

  steps_listed : arc_steps (listed One units cost steps) ≡ steps
  steps_listed = let c = carried units cost steps s.some (none_is units cost total steps s) s.ascending in
      fixed_back (fixed_arcs units cost) steps c.are.each ∙ steps_back steps s.ascending

  -- the costs with free capacity are those of the breakpoints
  pub costs_listed : length (free_costs (listed One units cost steps)) ≡ length steps
  costs_listed = count_costs (listed One units cost steps) ∙ ap length steps_listed

  pub entries_listed : cost_entries (listed One units cost steps) ≡ cond (int_lt (pos 0) units) 1 0 + length steps
  entries_listed =
      let u = listed_units units cost steps s.some (none_is units cost total steps s) s.ascending in
      rw (entries_are (listed One units cost steps) (sound_arcs units cost total steps s One), u, steps_listed)

  nothing_there : total ≡ pos 0 → SameCurve (listed One units cost steps) []
  nothing_there e =
      let left = steps_some steps s.ascending in
      let rooms : steps_room steps ≡ pos 0 = omega (arith, ints) in
      by_lt_z (pos 0) units (λ lt. absurd (omega (arith, ints)))
      (λ le. rw (test_no (pos 0) units le, no_steps steps s.ascending rooms) (curve_meaning.same_refl []))
    where
      no_steps : (steps : List (ℤ × ℤ)) → AreSteps steps → steps_room steps ≡ pos 0 → steps ≡ []
      no_steps [] r e = refl
      no_steps (step ∷ rest) r e = let left = steps_some rest r.2 in absurd (omega (arith, ints))

  nothing_back : SameCurve (listed One units cost steps) [] → total ≡ pos 0
  nothing_back m =
      sym (sound_cap units cost total steps s One)
      ∙ cost_cap_same (listed One units cost steps) [] (sound_arcs units cost total steps s One) tt m

  -- a curve means the same as no arcs exactly if its capacity is 0
  pub nothing_is : FitsSigned w64 total
      → (of_z w64 total ≡ 0 → SameCurve (listed One units cost steps) [])
      × (SameCurve (listed One units cost steps) [] → of_z w64 total ≡ 0)
  nothing_is f = ((λ t. nothing_there (is_zero total f t)), (λ m. ap (of_z w64) (nothing_back m)))

  pub entries_code : (n len : ℕ) → n ≡ cond (int_lt (pos 0) units) 1 0 → len ≡ length steps
      → n + len ≡ cost_entries (listed One units cost steps)
  entries_code n len e f = rw (e, f) (sym entries_listed)

  pub none_forced : (n : ℕ) → n ≡ 0 → FitsSigned w64 units → of_z w64 units ≡ 0 → n ≡ cond (int_lt (pos 0) units) 1 0
  none_forced n e f z = rw (test_no (pos 0) units (omega (arith, ints, is_zero units f z))) e

  pub some_forced : (n : ℕ) → n ≡ 1 → FitsSigned w64 units → (of_z w64 units ≡ 0 → ⊥)
      → n ≡ cond (int_lt (pos 0) units) 1 0
  some_forced n e f z = rw (test_yes (pos 0) units (not_zero units f z s.some)) e
