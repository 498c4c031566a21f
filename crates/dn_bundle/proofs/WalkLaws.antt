-- The least costs of a curve by its breakpoints, and the loop over the breakpoints that finds the least cost of one
-- amount.
use Rattle.std.proofs.Common.{◌≡◌, ◌-◌, ◌^◌, ℤ, pos, ◌+ℤ◌, ◌-ℤ◌, ◌*ℤ◌, ◌≤ℤ◌, ◌<ℤ◌, List, [], ◌∷◌, map, sym, ap, ◌∙◌, arith, to_z, of_z, w64, true, false, FitsSigned}
use Rattle.std.proofs.lemmas.Int.{ints, to_z-of_z}
use Rattle.std.specs.Int.{w128}
use Rattle.std.specs.Int.Signed.{le_z}
use Rattle.std.proofs.Math.IntN.{*ℤ_comm}
use Rattle.dn_arc_theory.specs.declared.arc.Form.TheVariants.{One}
use Rattle.dn_arc_theory.specs.Splits.{LeastCost}
use Rattle.dn_arc_theory.specs.Fillings.{forced_units, forced_cost}
use Rattle.dn_arc_theory.specs.State.FillCosts.{room, free_room, fill_cost}
use Rattle.dn_arc_theory.specs.State.Means.{IsMean}
use Rattle.dn_arc_theory.specs.State.Steps.{AreSteps, steps_room}
use Rattle.dn_arc_theory.specs.State.CurveListed.{step_arc, listed, IsSound}
use Rattle.dn_arc_theory.proofs.FillsLaws.{fill_low, fill_high, fill_zero, filling_of_least, least_of_filling}
use Rattle.dn_arc_theory.proofs.FormsLaws.{free_ordered, form_one_ordered}
use Rattle.dn_arc_theory.proofs.StepArcsLaws.{free_arcs, steps_some, steps_free_room}
use Rattle.dn_arc_theory.proofs.ListedLaws.{listed_one, listed_units, listed_cost, listed_apart}
use Rattle.dn_arc_theory.proofs.SoundLaws.{none_is}
use Rattle.dn_arc_theory.proofs.MeansLaws.{more_mean, fits_some}
use Rattle.dn_bundle.proofs.Cost128Laws.{more_fits}
use Rattle.dn_bundle.proofs.GrowLaws.{most}

-- the cost of y units that fill the breakpoints
abbrev pub steps_cost : List (ℤ × ℤ) → ℤ → ℤ
steps_cost steps y = fill_cost (map step_arc steps) y

-- beyond an amount of this cost, the breakpoints give x the cost k
pub record IsAt (amount cost : ℤ) (steps : List (ℤ × ℤ)) (x k : ℤ) : Type 0 where
  pub low : amount ≤ℤ x
  pub high : (x -ℤ amount) ≤ℤ steps_room steps
  pub is : k ≡ cost +ℤ steps_cost steps (x -ℤ amount)

steps_zero : (steps : List (ℤ × ℤ)) → AreSteps steps → steps_cost steps (pos 0) ≡ pos 0
steps_zero steps s = fill_zero (map step_arc steps) (free_ordered (map step_arc steps) (free_arcs steps s))

module _ (units cost total : ℤ) (steps : List (ℤ × ℤ)) (s : IsSound units cost total steps) where
  same_cost : (x : ℤ) → units ≤ℤ x
      → forced_cost (listed One units cost steps) +ℤ fill_cost (listed One units cost steps)
      (x -ℤ forced_units (listed One units cost steps)) ≡ cost +ℤ steps_cost steps (x -ℤ units)
  same_cost x h =
      let n = none_is units cost total steps s in
      let a = listed_apart units cost steps s.some n s.ascending in
      rw (listed_cost units cost steps s.some n s.ascending, listed_units units cost steps s.some n s.ascending)
      (ap (λ z. cost +ℤ z) (a.fill (x -ℤ units) (omega (arith, ints))))

  same_room : free_room (listed One units cost steps) ≡ steps_room steps
  same_room = (listed_apart units cost steps s.some (none_is units cost total steps s) s.ascending).room
      ∙ steps_free_room steps

  -- the least costs of a curve, by its breakpoints
  pub least_at : (x k : ℤ) → LeastCost (listed One units cost steps) x k → IsAt units cost steps x k
  least_at x k l =
      let n = none_is units cost total steps s in
      let f =
      filling_of_least (listed One units cost steps) x k
      (form_one_ordered _ (listed_one units cost steps s.some n s.ascending)) l in
      let u = listed_units units cost steps s.some n s.ascending in
      let under : units ≤ℤ x = omega (arith, ints) in
      record { low = under; high = omega (arith, ints, same_room); is = f.cost ∙ same_cost x under }

  pub at_least : (x k : ℤ) → IsAt units cost steps x k → LeastCost (listed One units cost steps) x k
  at_least x k p =
      let n = none_is units cost total steps s in
      let u = listed_units units cost steps s.some n s.ascending in
      let r = same_room in
      least_of_filling (listed One units cost steps) x k
      (form_one_ordered _ (listed_one units cost steps s.some n s.ascending))
      (record { low = omega (arith, ints); high = omega (arith, ints); cost = p.is ∙ sym (same_cost x p.low) })

-- the costs beyond the first breakpoint
module _ (amount cost : ℤ) (step : ℤ × ℤ) (rest : List (ℤ × ℤ)) (x : ℤ) (some : pos 1 ≤ℤ step.1)
    (past : (amount +ℤ step.1) <ℤ x) where
  more_cost : steps_cost (step ∷ rest) (x -ℤ amount) ≡ (step.1 *ℤ step.0) +ℤ steps_cost rest (x -ℤ (amount +ℤ step.1))
  more_cost =
      let whole : room (step_arc step) ≡ step.1 = omega (arith, ints) in
      let left : (x -ℤ amount) -ℤ step.1 ≡ x -ℤ (amount +ℤ step.1) = omega (arith, ints) in
      let past = fill_high (step_arc step) (map step_arc rest) (x -ℤ amount) (omega (arith, ints)) in
      rw (past, whole, *ℤ_comm step.0 step.1, left)

  pub at_more : (k : ℤ) → IsAt amount cost (step ∷ rest) x k
      → IsAt (amount +ℤ step.1) (cost +ℤ (step.1 *ℤ step.0)) rest x k
  at_more k p = let m = more_cost in
      record { low = omega (arith, ints); high = omega (arith, ints); is = omega (arith, ints) }

  pub more_at : (k : ℤ) → IsAt (amount +ℤ step.1) (cost +ℤ (step.1 *ℤ step.0)) rest x k
      → IsAt amount cost (step ∷ rest) x k
  more_at k p = let m = more_cost in
      record { low = omega (arith, ints); high = omega (arith, ints); is = omega (arith, ints) }

-- the cost of an amount within the first breakpoint
pub at_here : (amount cost : ℤ) (step : ℤ × ℤ) (rest : List (ℤ × ℤ)) (x : ℤ) → AreSteps rest → amount ≤ℤ x
    → (x -ℤ amount) ≤ℤ step.1 → IsAt amount cost (step ∷ rest) x (cost +ℤ ((x -ℤ amount) *ℤ step.0))
at_here amount cost step rest x s h g =
    let left = steps_some rest s in
    let e = fill_low (step_arc step) (map step_arc rest) (x -ℤ amount) (omega (arith, ints)) in
    record { low = h; high = omega (arith, ints); is = ap (λ z. cost +ℤ z) (*ℤ_comm (x -ℤ amount) step.0 ∙ sym e) }

-- the cost of the amount itself
pub at_start : (amount cost : ℤ) (steps : List (ℤ × ℤ)) → AreSteps steps → IsAt amount cost steps amount cost
at_start amount cost steps s =
    let left = steps_some steps s in
    let z = steps_zero steps s in
    let e = ap (steps_cost steps) (let e : amount -ℤ amount ≡ pos 0 = omega (arith, ints) in e) in
    record { low = omega (arith, ints); high = omega (arith, ints); is = omega (arith, ints) }

-- an amount has one cost
pub at_one : (amount cost : ℤ) (steps : List (ℤ × ℤ)) (x j k : ℤ) → IsAt amount cost steps x j
    → IsAt amount cost steps x k → j ≡ k
at_one amount cost steps x j k p q = p.is ∙ sym q.is

-- the loop has sent `taken` units at the cost `spent`, and the remaining breakpoints give x the same cost
pub record IsTaken (units cost : ℤ) (steps : List (ℤ × ℤ)) (x taken spent : ℤ) (rest : List (ℤ × ℤ)) : Type 0 where
  pub there : (k : ℤ) → IsAt units cost steps x k → IsAt taken spent rest x k
  pub back : (k : ℤ) → IsAt taken spent rest x k → IsAt units cost steps x k
  pub some : pos 0 ≤ℤ taken
  pub low : taken ≤ℤ x
  pub mean : IsMean spent taken
  pub ascending : AreSteps rest
  pub most : (taken +ℤ steps_room rest) ≤ℤ pos (2 ^ 63 - 1)

within : (left room : ℤ) → FitsSigned w64 room → le_z left (to_z w64 (of_z w64 room)) ≡ true → left ≤ℤ room
within left room f h = let e : le_z left room ≡ true = simp to_z-of_z at h in
    grind (arith, ints)

past : (left room : ℤ) → FitsSigned w64 room → le_z left (to_z w64 (of_z w64 room)) ≡ false → room <ℤ left
past left room f h = let e : le_z left room ≡ false = simp to_z-of_z at h in
    grind (arith, ints)

-- one turn of the loop in the code
module _ (units cost : ℤ) (steps : List (ℤ × ℤ)) (x taken spent : ℤ) (list rest : List (ℤ × ℤ)) (step : ℤ × ℤ)
    (fx : FitsSigned w64 x) (f0 : FitsSigned w64 step.0) (f1 : FitsSigned w64 step.1)
    (t : IsTaken units cost steps x taken spent list) (e : list ≡ step ∷ rest) where
  here : IsTaken units cost steps x taken spent (step ∷ rest)
  here = rw e at t

  left_is : to_z w64 (of_z w64 (x -ℤ taken)) ≡ x -ℤ taken
  left_is = let m = most x fx in
      to_z-of_z w64 (x -ℤ taken) (fits_some (x -ℤ taken) (omega (arith, ints)) (omega (arith, ints)))

  last : le_z (to_z w64 (of_z w64 (x -ℤ taken))) (to_z w64 (of_z w64 step.1)) ≡ true → (x -ℤ taken) ≤ℤ step.1
  last h = within (x -ℤ taken) step.1 f1 (rw left_is at h)

  pub last_fits : le_z (to_z w64 (of_z w64 (x -ℤ taken))) (to_z w64 (of_z w64 step.1)) ≡ true
      → FitsSigned w128 (spent +ℤ (to_z w64 (of_z w64 (x -ℤ taken)) *ℤ step.0))
  last_fits h =
      let u = last h in
      let left = steps_some rest here.ascending.2 in
      rw left_is
      (more_fits spent (x -ℤ taken) step.0 taken t.some (omega (arith, ints)) (omega (arith, ints)) f0 t.mean)

  pub last_is : (r : ℤ) → le_z (to_z w64 (of_z w64 (x -ℤ taken))) (to_z w64 (of_z w64 step.1)) ≡ true
      → r ≡ spent +ℤ (to_z w64 (of_z w64 (x -ℤ taken)) *ℤ step.0) → IsAt units cost steps x r
  last_is r h v = here.back r (rw (v, left_is) (at_here taken spent step rest x here.ascending.2 t.low (last h)))

  pub next_fits : FitsSigned w128 (spent +ℤ (step.1 *ℤ step.0))
  next_fits =
      let h = here in
      let left = steps_some rest h.ascending.2 in
      more_fits spent step.1 step.0 taken t.some (omega (arith, ints)) (omega (arith, ints)) f0 t.mean

  pub next : (r : ℤ) → FitsSigned w128 r → le_z (to_z w64 (of_z w64 (x -ℤ taken))) (to_z w64 (of_z w64 step.1)) ≡ false
      → r ≡ spent +ℤ (step.1 *ℤ step.0)
      → IsTaken units cost steps x (to_z w64 (of_z w64 (taken +ℤ to_z w64 (of_z w64 step.1))))
      (to_z w128 (of_z w128 r)) rest
  next r fr h v =
      let p = past (x -ℤ taken) step.1 f1 (rw left_is at h) in
      let some = here.ascending.0 in
      let m = here.most in
      let left = steps_some rest here.ascending.2 in
      let over : (taken +ℤ step.1) <ℤ x = omega (arith, ints) in
      let new : IsTaken units cost steps x (taken +ℤ step.1) (spent +ℤ (step.1 *ℤ step.0)) rest = record {
        there = λ k a. at_more taken spent step rest x some over k (here.there k a);
        back = λ k a. here.back k (more_at taken spent step rest x some over k a);
        some = omega (arith, ints);
        low = omega (arith, ints);
        mean = more_mean spent step.1 step.0 taken t.some (omega (arith, ints)) f0 t.mean;
        ascending = here.ascending.2;
        most = omega (arith, ints);
      } in
      let sum = fits_some (taken +ℤ step.1) (omega (arith, ints)) (omega (arith, ints)) in
      simp to_z-of_z (rw v new)

-- the end of the loop
module _ (units cost : ℤ) (steps : List (ℤ × ℤ)) (x taken spent : ℤ) (list : List (ℤ × ℤ))
    (t : IsTaken units cost steps x taken spent list) (e : list ≡ []) where
  done : IsTaken units cost steps x taken spent []
  done = rw e at t

  pub done_is : x ≡ taken → IsAt units cost steps x spent
  done_is h = done.back spent (rw h (at_start taken spent [] tt))

  pub done_not : (x ≡ taken → ⊥) → (k : ℤ) → IsAt units cost steps x k → ⊥
  done_not h k p = let q = done.there k p in h (omega (arith, ints))

-- an amount below the forced units has no cost
pub too_little : (amount cost : ℤ) (steps : List (ℤ × ℤ)) (x k : ℤ) → x <ℤ amount → IsAt amount cost steps x k → ⊥
too_little amount cost steps x k h p = absurd (omega (arith, ints))
