-- Adding an arc to a curve: the curve remains valid and means one more arc, its numbers fit, and the capacities sum to
-- more than 2^63-1 exactly if the sum that the code computes does not fit.
use Rattle.std.proofs.Common.{◌≡◌, ◌-◌, ◌^◌, ℤ, pos, negsuc, ◌+ℤ◌, ◌-ℤ◌, ◌*ℤ◌, ◌≤ℤ◌, ◌<ℤ◌, List, [], ◌∷◌, ◌++◌, map, sym, ap, ◌∙◌, arith, w64, to_z, of_z, Result, Ok, Err, OnOk, OnErr, FitsSigned}
use Rattle.std.specs.Int.{w128}
use Rattle.std.specs.List.{AllByRecursion}
use Rattle.std.proofs.lemmas.Int.{ints, to_z-of_z, by_lt_z}
use Rattle.dn_arc_theory.specs.Kinds.{costs}
use Rattle.dn_arc_theory.specs.declared.arc.CostArc.{CostArc}
use Rattle.dn_arc_theory.specs.declared.arc.Form.TheVariants.{One}
use Rattle.dn_bundle.specs.declared.curve.shape.Numbers.{Numbers}
use Rattle.dn_bundle.specs.declared.curve.shape.Shape.{Shape}
use Rattle.dn_arc_theory.specs.Meanings.{SameCurve}
use Rattle.dn_arc_theory.specs.Canonical.{IsCostArc}
use Rattle.dn_arc_theory.specs.State.Steps.{put_step, add_step, AreSteps, steps_room}
use Rattle.dn_arc_theory.specs.State.CurveListed.{free_arc, step_arc, listed, IsSound}
use Rattle.dn_bundle.specs.State.Shapes.{shape_numbers, AreSound, curve_of, IsGrown}
use Rattle.dn_arc_theory.proofs.SplitsLaws.{SameAbove}
use Rattle.dn_arc_theory.proofs.CurvesLaws.{above_meaning}
use Rattle.dn_arc_theory.proofs.PartsLaws.{test_yes, test_no}
use Rattle.dn_arc_theory.proofs.AddsLaws.{above_none}
use Rattle.dn_arc_theory.proofs.MeansLaws.{more_mean, fits_some}
use Rattle.dn_arc_theory.proofs.StepArcsLaws.{by_put, steps_some, put_steps, put_room, put_above}
use Rattle.dn_arc_theory.proofs.CostKindLaws.{cost_kind}
use Rattle.dn_arc_theory.proofs.StoredLaws.{same_numbers}
use Rattle.dn_arc_theory.proofs.SoundLaws.{none_is, sound_cap, listed_added}
use Rattle.dn_bundle.proofs.Cost128Laws.{more_fits}

pub most : (z : ℤ) → FitsSigned w64 z → z ≤ℤ pos (2 ^ 63 - 1)
most (pos n) f = omega (arith, ints, f.sfits)
most (negsuc n) f = omega (arith, ints)

-- a curve whose numbers do not change does not change
pub same_curve : (old new : Shape) (s : AreSound (shape_numbers old)) (t : AreSound (shape_numbers new))
    → shape_numbers new ≡ shape_numbers old → curve_of new t ≡ curve_of old s
same_curve old new s t e = same_numbers _ _ (ap (λ (n : Numbers). (n.units, (n.cost, (n.total, n.steps)))) e)

-- the costs fit 64 bits
abbrev pub CostsFit : List (ℤ × ℤ) → Type 0
CostsFit steps = AllByRecursion (λ (step : ℤ × ℤ). FitsSigned w64 step.0) steps

fit_put : (steps : List (ℤ × ℤ)) (more : ℤ × ℤ) → FitsSigned w64 more.0 → CostsFit steps
    → CostsFit (put_step steps more)
fit_put [] more f g = (f, tt)
fit_put (step ∷ rest) more f g =
    by_put CostsFit step rest more (λ lt. (f, g)) (λ gt. (g.0, fit_put rest more f g.1)) (λ eq. g)

-- a curve, an arc, and the total capacity with the arc
module _ (units cost total : ℤ) (steps : List (ℤ × ℤ)) (a : CostArc) (total' : ℤ) (s : IsSound units cost total steps)
    (h : IsCostArc a) (e : total' ≡ total +ℤ a.cap) (ft : FitsSigned w64 total') where
  pub units_most : (units +ℤ a.low) ≤ℤ pos (2 ^ 63 - 1)
  units_most =
      let left = steps_some steps s.ascending in
      omega (arith, ints, most total' ft)

  pub cost_fits : FitsSigned w64 a.cost → FitsSigned w128 (cost +ℤ (a.low *ℤ a.cost))
  cost_fits f = more_fits cost a.low a.cost units s.some h.some units_most f s.mean

  pub units_fit : FitsSigned w64 (units +ℤ a.low)
  units_fit = fits_some (units +ℤ a.low) (omega (arith, ints)) units_most

  pub room_fits : FitsSigned w64 (a.cap -ℤ a.low)
  room_fits =
      let left = steps_some steps s.ascending in
      let m = most total' ft in
      fits_some (a.cap -ℤ a.low) (omega (arith, ints)) (omega (arith, ints))

  abbrev more : ℤ × ℤ
  more = (a.cost, a.cap -ℤ a.low)

  added : SameAbove (map step_arc (add_step steps more)) (free_arc a.cost (a.cap -ℤ a.low) ∷ map step_arc steps)
  added =
      by_lt_z (pos 0) (a.cap -ℤ a.low) (λ lt. rw test_yes (put_above steps more (omega (arith, ints)) s.ascending))
      (λ le. rw test_no (above_meaning.same_sym _ _ (above_none a.cost (a.cap -ℤ a.low) _ (omega (arith, ints)))))

  ascends : AreSteps (add_step steps more)
  ascends =
      by_lt_z (pos 0) (a.cap -ℤ a.low) (λ lt. rw test_yes (put_steps steps more (omega (arith, ints)) s.ascending))
      (λ le. rw test_no s.ascending)

  rooms : steps_room (add_step steps more) ≡ steps_room steps +ℤ (a.cap -ℤ a.low)
  rooms =
      by_lt_z (pos 0) (a.cap -ℤ a.low) (λ lt. rw test_yes (put_room steps more))
      (λ le. rw test_no (omega (arith, ints)))

  module _ (fk : FitsSigned w64 a.cost) where
    grown : IsSound (units +ℤ a.low) (cost +ℤ (a.low *ℤ a.cost)) total' (add_step steps more)
    grown =
        let r = rooms in
        record {
          some = omega (arith, ints);
          mean = more_mean cost a.low a.cost units s.some h.some fk s.mean;
          whole = omega (arith, ints);
          most = most total' ft;
          ascending = ascends;
          fit =
              by_lt_z (pos 0) (a.cap -ℤ a.low) (λ lt. rw test_yes (fit_put steps more fk s.fit))
              (λ le. rw test_no s.fit);
        }

    -- the values as the code stores them
    module _ (u c t : ℤ) (l : List (ℤ × ℤ)) (eu : u ≡ units +ℤ a.low) (ec : c ≡ cost +ℤ (a.low *ℤ a.cost))
        (et : t ≡ total') (el : l ≡ add_step steps more) where
      pub grown_sound : IsSound u c t l
      grown_sound =
          rw (eu, ec, et, el) grown

      pub grown_same : SameCurve (listed One u c l) (listed One units cost steps ++ a ∷ [])
      grown_same =
          let n = grown_sound in
          listed_added units cost u c steps l a s.some (none_is units cost total steps s) s.ascending n.some
          (none_is u c t l n) n.ascending eu ec (rw el added)

  -- the breakpoint that the code makes of the arc
  pub step_is : FitsSigned w64 a.cost → FitsSigned w64 a.low → FitsSigned w64 a.cap
      → (
        to_z w64 (of_z w64 a.cost),
        to_z w64
            (of_z w64 (to_z w64 (of_z w64 a.cap) -ℤ to_z w64 (of_z w64 a.low))),
      ) ≡ more
  step_is f g k =
      let r = room_fits in
      simp to_z-of_z

  pub units_are : FitsSigned w64 units → FitsSigned w64 a.low
      → to_z w64 (of_z w64 (to_z w64 (of_z w64 units) +ℤ to_z w64 (of_z w64 a.low))) ≡ units +ℤ a.low
  units_are f g = let u = units_fit in simp to_z-of_z

-- the numbers of a curve, an arc, and the total capacity with the arc
module _ (old new : Numbers) (a : CostArc) (total : ℤ) (s : AreSound old) (h : IsCostArc a)
    (e : total ≡ old.total +ℤ a.cap) (f : FitsSigned w64 total) (fk : FitsSigned w64 a.cost) where
  -- numbers to which the arc was added mean one more arc
  pub taken_same : IsGrown old a new
      → SameCurve (listed One new.units new.cost new.steps) (listed One old.units old.cost old.steps ++ a ∷ [])
  taken_same g = grown_same old.units old.cost old.total old.steps a total s h e f fk new.units new.cost new.total
      new.steps g.units g.cost (g.total ∙ sym e) g.steps

  -- the numbers are valid, whether the arc was added or they have not changed
  pub taken_sound : {E : Type 0} (r : Result (Unit {0}) E) → OnOk r (IsGrown old a new) → OnErr r (new ≡ old)
      → AreSound new
  taken_sound (Ok x) ok err = grown_sound old.units old.cost old.total old.steps a total s h e f fk new.units new.cost
      new.total new.steps ok.units ok.cost (ok.total ∙ sym e) ok.steps
  taken_sound (Err x) ok err = rw err s

-- the total capacity with one more arc
pushed : (units cost total : ℤ) (steps : List (ℤ × ℤ)) (a : CostArc) → IsSound units cost total steps
    → costs.capacity (listed One units cost steps ++ a ∷ []) ≡ total +ℤ a.cap
pushed units cost total steps a s =
    let e = cost_kind.capacity_append (listed One units cost steps) (a ∷ []) in
    omega (arith, ints, sound_cap units cost total steps s One)

pub two_are : (a b : ℤ) → FitsSigned w64 a → FitsSigned w64 b → to_z w64 (of_z w64 a) +ℤ to_z w64 (of_z w64 b) ≡ a +ℤ b
two_are a b f g = simp to_z-of_z

-- if the sum does not fit, the capacities sum to more than 2^63-1
pub too_much : (units cost total : ℤ) (steps : List (ℤ × ℤ)) (a : CostArc) → IsSound units cost total steps
    → IsCostArc a → FitsSigned w64 total → FitsSigned w64 a.cap
    → (FitsSigned w64 (to_z w64 (of_z w64 total) +ℤ to_z w64 (of_z w64 a.cap)) → ⊥)
    → pos (2 ^ 63 - 1) <ℤ costs.capacity (listed One units cost steps ++ a ∷ [])
too_much units cost total steps a s h f g n =
    let left = steps_some steps s.ascending in
    rw (pushed units cost total steps a s)
    (by_lt_z (pos (2 ^ 63 - 1)) (total +ℤ a.cap) (λ lt. lt)
    (λ le. absurd (n (simp to_z-of_z (fits_some (total +ℤ a.cap) (omega (arith, ints)) le)))))

-- if the sum fits, the capacities do not sum to more than 2^63-1
pub not_too_much : (units cost total : ℤ) (steps : List (ℤ × ℤ)) (a : CostArc) → IsSound units cost total steps
    → FitsSigned w64 total → FitsSigned w64 a.cap
    → FitsSigned w64 (to_z w64 (of_z w64 total) +ℤ to_z w64 (of_z w64 a.cap))
    → pos (2 ^ 63 - 1) <ℤ costs.capacity (listed One units cost steps ++ a ∷ []) → ⊥
not_too_much units cost total steps a s f g fits n =
    let e = pushed units cost total steps a s in
    let m = most (total +ℤ a.cap) (simp to_z-of_z at fits) in
    absurd (omega (arith, ints))
