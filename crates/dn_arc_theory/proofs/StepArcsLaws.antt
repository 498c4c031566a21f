-- Breakpoints as free arcs. Adding capacity at a cost keeps them sorted, adds up the capacities, and means the same as
-- one more free arc.
use Rattle.std.proofs.Common.{◌≡◌, ℤ, pos, ◌+ℤ◌, ◌≤ℤ◌, ◌<ℤ◌, List, [], ◌∷◌, map, refl, arith}
use Rattle.std.proofs.lemmas.Int.{ints, by_lt_z}
use Rattle.std.specs.List.{AllByRecursion}
use Rattle.dn_arc_theory.specs.State.FillCosts.{free_room}
use Rattle.dn_arc_theory.specs.State.CurveListed.{step_arc}
use Rattle.dn_arc_theory.specs.State.Steps.{put_step, AreSteps, steps_room}
use Rattle.dn_arc_theory.proofs.SplitsLaws.{SameAbove}
use Rattle.dn_arc_theory.proofs.CurvesLaws.{above_meaning}
use Rattle.dn_arc_theory.proofs.AddsLaws.{above_merge}
use Rattle.dn_arc_theory.proofs.FormsLaws.{AreAbove, AreFree}
use Rattle.dn_arc_theory.proofs.PartsLaws.{test_yes, test_no}

-- each cost is above c
abbrev pub CostsAbove : ℤ → List (ℤ × ℤ) → Type 0
CostsAbove c steps = AllByRecursion (λ (other : ℤ × ℤ). c <ℤ other.0) steps

above_arcs : (c : ℤ) (steps : List (ℤ × ℤ)) → CostsAbove c steps → AreAbove c (map step_arc steps)
above_arcs c [] h = tt
above_arcs c (s ∷ rest) h = (h.0, above_arcs c rest h.1)

-- the arcs of breakpoints are free arcs
pub free_arcs : (steps : List (ℤ × ℤ)) → AreSteps steps → AreFree (map step_arc steps)
free_arcs [] s = record { each = tt; ascending = tt }
free_arcs (step ∷ rest) s = let i = free_arcs rest s.2 in
    record {
      each = (record { none = refl; room = s.0 }, i.each);
      ascending = (above_arcs step.0 rest s.1, i.ascending);
    }

-- a case distinction by where the capacity is added
pub by_put : (P : List (ℤ × ℤ) → Type 0) (step : ℤ × ℤ) (rest : List (ℤ × ℤ)) (more : ℤ × ℤ)
    → (more.0 <ℤ step.0 → P (more ∷ step ∷ rest)) → (step.0 <ℤ more.0 → P (step ∷ put_step rest more))
    → (more.0 ≡ step.0 → P ((step.0, step.1 +ℤ more.1) ∷ rest)) → P (put_step (step ∷ rest) more)
by_put P step rest more f g h =
    by_lt_z more.0 step.0 (λ lt. simp test_yes (f lt))
    (λ le. by_lt_z step.0 more.0 (λ lt. simp (test_no, test_yes) (g lt)) (λ ge. simp test_no (h (omega (arith, ints)))))

pub above_put : (c : ℤ) (steps : List (ℤ × ℤ)) (more : ℤ × ℤ) → c <ℤ more.0 → CostsAbove c steps
    → CostsAbove c (put_step steps more)
above_put c [] more h a = (h, tt)
above_put c (step ∷ rest) more h a =
    by_put (CostsAbove c) step rest more (λ lt. (h, a)) (λ gt. (a.0, above_put c rest more h a.1)) (λ eq. a)

-- breakpoints above a cost are above each lower cost
pub costs_lower : (c d : ℤ) (steps : List (ℤ × ℤ)) → c <ℤ d → CostsAbove d steps → CostsAbove c steps
costs_lower c d [] h a = tt
costs_lower c d (step ∷ rest) h a = (omega (arith, ints), costs_lower c d rest h a.1)

-- adding capacity keeps the breakpoints sorted
pub put_steps : (steps : List (ℤ × ℤ)) (more : ℤ × ℤ) → pos 1 ≤ℤ more.1 → AreSteps steps
    → AreSteps (put_step steps more)
put_steps [] more h s = (h, tt, tt)
put_steps (step ∷ rest) more h s =
    by_put AreSteps step rest more (λ lt. (h, (lt, costs_lower more.0 step.0 rest lt s.1), s))
    (λ gt. (s.0, above_put step.0 rest more gt s.1, put_steps rest more h s.2))
    (λ eq. (omega (arith, ints), s.1, s.2))

-- adding capacity adds it to the total
pub put_room : (steps : List (ℤ × ℤ)) (more : ℤ × ℤ) → steps_room (put_step steps more) ≡ steps_room steps +ℤ more.1
put_room [] more = omega (arith, ints)
put_room (step ∷ rest) more =
    by_put (λ l. steps_room l ≡ steps_room (step ∷ rest) +ℤ more.1) step rest more (λ lt. omega (arith, ints))
    (λ gt. omega (arith, ints, put_room rest more))
    (λ eq. omega (arith, ints))

-- adding capacity at a cost means the same as one more free arc
pub put_above : (steps : List (ℤ × ℤ)) (more : ℤ × ℤ) → pos 1 ≤ℤ more.1 → AreSteps steps
    → SameAbove (map step_arc (put_step steps more)) (step_arc more ∷ map step_arc steps)
put_above [] more h s = above_meaning.same_refl _
put_above (step ∷ rest) more h s =
    by_put (λ l. SameAbove (map step_arc l) (step_arc more ∷ map step_arc (step ∷ rest))) step rest more
    (λ lt. above_meaning.same_refl _)
    (λ gt. above_meaning.same_trans _ _ _ (above_meaning.same_more (step_arc step) _ _ (put_above rest more h s.2))
    (above_meaning.same_swap (step_arc step) (step_arc more) (map step_arc rest)))
    (λ eq. rw eq (above_merge step.0 step.1 more.1 (map step_arc rest) (omega (arith, ints)) (omega (arith, ints))))

pub steps_some : (steps : List (ℤ × ℤ)) → AreSteps steps → pos 0 ≤ℤ steps_room steps
steps_some [] s = omega (arith, ints)
steps_some (step ∷ rest) s = omega (arith, ints, steps_some rest s.2)

-- the total capacity of breakpoints is the free capacity of their arcs
pub steps_free_room : (steps : List (ℤ × ℤ)) → free_room (map step_arc steps) ≡ steps_room steps
steps_free_room [] = refl
steps_free_room (step ∷ rest) = omega (arith, ints, steps_free_room rest)
