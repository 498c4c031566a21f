-- The arcs that a curve lists are canonical, fit 64 bits, have the capacity of the curve, and mean the same in both
-- forms. Adding the forced and the free part of an arc to the curve means the same as appending the arc.
use Rattle.std.proofs.Common.{◌≡◌, ◌-◌, ◌^◌, ℤ, pos, ◌+ℤ◌, ◌-ℤ◌, ◌*ℤ◌, ◌≤ℤ◌, ◌<ℤ◌, List, [], ◌∷◌, ◌++◌, map, refl, FitsSigned, sym, ap, arith, ◌∙◌}
use Rattle.std.specs.Int.{w64, int_div_euclid, int_rem_euclid}
use Rattle.std.proofs.Props.{props}
use Rattle.std.proofs.lemmas.Int.{ints, by_lt_z}
use Rattle.std.proofs.Math.IntN.{*ℤ_comm}
use Rattle.std.specs.List.{AllByRecursion, AllByRecursion-prop}
use Rattle.dn_arc_theory.specs.declared.arc.CostArc.{CostArc}
use Rattle.dn_arc_theory.specs.declared.arc.Form.{Form}
use Rattle.dn_arc_theory.specs.declared.arc.Form.TheVariants.{One, Two}
use Rattle.dn_arc_theory.specs.Kinds.{costs}
use Rattle.dn_arc_theory.specs.State.Bundles.{NumbersFit}
use Rattle.dn_arc_theory.specs.Meanings.{SameCurve}
use Rattle.dn_arc_theory.specs.Canonical.{IsCostArc, AreCanonCosts}
use Rattle.dn_arc_theory.specs.State.Means.{IsMean}
use Rattle.dn_arc_theory.specs.State.Steps.{AreSteps}
use Rattle.dn_arc_theory.specs.State.CurveListed.{free_arc, step_arc, fixed_arcs, join_arcs, listed, IsSound}
use Rattle.dn_arc_theory.proofs.SplitsLaws.{SameAbove}
use Rattle.dn_arc_theory.proofs.AddsLaws.{add_end}
use Rattle.dn_arc_theory.proofs.MeansLaws.{floor_of, each_fits, each_next, none_cost, fits_some, fits_next}
use Rattle.dn_arc_theory.proofs.PartsLaws.{test_yes, test_no}
use Rattle.dn_arc_theory.proofs.JoinsLaws.{joined_costs}
use Rattle.dn_arc_theory.proofs.ListedLaws.{carried, listed_canonical, listed_same, listed_cap, listed_arcs}

steps_prop : (steps : List (ℤ × ℤ)) → IsProp (AreSteps steps)
steps_prop [] = hlevel props
steps_prop (step ∷ rest) = let i = steps_prop rest in
    let a = AllByRecursion-prop (λ (other : ℤ × ℤ). step.0 <ℤ other.0) (λ _. hlevel props) rest in hlevel (props, i, a)

pub IsSound-prop : (units cost total : ℤ) (steps : List (ℤ × ℤ)) → IsProp (IsSound units cost total steps)
IsSound-prop units cost total steps = let i = steps_prop steps in
    let a = AllByRecursion-prop (λ (step : ℤ × ℤ). FitsSigned w64 step.0) (λ _. hlevel props) steps in
    hlevel (props, i, a)

-- the costs fit 64 bits
abbrev CostsFit : List CostArc → Type 0
CostsFit arcs = AllByRecursion (λ (a : CostArc). FitsSigned w64 a.cost) arcs

steps_fit : (steps : List (ℤ × ℤ)) → AllByRecursion (λ (step : ℤ × ℤ). FitsSigned w64 step.0) steps
    → CostsFit (map step_arc steps)
steps_fit [] f = tt
steps_fit (step ∷ rest) f = (f.0, steps_fit rest f.1)

fixed_fit : (units cost : ℤ) → IsMean cost units → CostsFit (fixed_arcs units cost)
fixed_fit units cost m =
    let each = int_div_euclid cost units in
    let rest = int_rem_euclid cost units in
    by_lt_z (pos 0) units
    (λ lt.
    let f = each_fits cost units each lt m refl in
    let g = fits_next each f in
    by_lt_z (pos 0) rest
    (λ some. simp test_yes (f, (g (each_next cost units each rest m (floor_of cost units _ _ lt refl refl) some), tt)))
    (λ none. simp (test_yes, test_no) (f, tt)))
    (λ le. simp test_no tt)

both_fit : (xs ys : List CostArc) → CostsFit xs → CostsFit ys → CostsFit (xs ++ ys)
both_fit [] ys f g = g
both_fit (x ∷ xs) ys f g = (f.0, both_fit xs ys f.1 g)

join_fit : (xs ys : List CostArc) → CostsFit xs → CostsFit ys → CostsFit (join_arcs xs ys)
join_fit [] ys f g = g
join_fit (x ∷ xs) ys f g = joined_costs (FitsSigned w64) x (join_arcs xs ys) f.0 (join_fit xs ys f.1 g)

-- the total capacity of a problem's arcs is at least 0
pub caps_some : (arcs : List CostArc) → AllByRecursion IsCostArc arcs → pos 0 ≤ℤ costs.capacity arcs
caps_some [] h = omega (arith, ints)
caps_some (a ∷ rest) h = omega (arith, ints, caps_some rest h.1)

-- the numbers of arcs fit 64 bits if their total capacity and their costs do
numbers_fit : (arcs : List CostArc) → AllByRecursion IsCostArc arcs → costs.capacity arcs ≤ℤ pos (2 ^ 63 - 1)
    → CostsFit arcs
    → NumbersFit costs arcs
numbers_fit [] h m f = tt
numbers_fit (a ∷ rest) h m f =
    let left = caps_some rest h.1 in (
      (
        fits_some a.low h.0.some (omega (arith, ints)),
        (fits_some a.cap (omega (arith, ints)) (omega (arith, ints)), (f.0, tt)),
      ),
      numbers_fit rest h.1
          (omega (arith, ints)) f.1,
    )

module _ (units cost total : ℤ) (steps : List (ℤ × ℤ)) (s : IsSound units cost total steps) where
  pub none_is : units ≡ pos 0 → cost ≡ pos 0
  none_is e = none_cost cost units e s.mean

  pub sound_canonical : (form : Form) → AreCanonCosts form (listed form units cost steps)
  sound_canonical form = listed_canonical units cost steps s.some none_is s.ascending form

  pub sound_same : SameCurve (listed Two units cost steps) (listed One units cost steps)
  sound_same = listed_same units cost steps s.some none_is s.ascending

  pub sound_cap : (form : Form) → costs.capacity (listed form units cost steps) ≡ total
  sound_cap form = listed_cap units cost steps s.some none_is s.ascending form ∙ sym s.whole

  pub sound_arcs : (form : Form) → AllByRecursion IsCostArc (listed form units cost steps)
  sound_arcs form = listed_arcs units cost steps s.some none_is s.ascending form

  costs_fit : (form : Form) → CostsFit (listed form units cost steps)
  costs_fit One =
      both_fit (fixed_arcs units cost) (map step_arc steps) (fixed_fit units cost s.mean) (steps_fit steps s.fit)
  costs_fit Two =
      join_fit (fixed_arcs units cost) (map step_arc steps) (fixed_fit units cost s.mean) (steps_fit steps s.fit)

  pub sound_fit : (form : Form) → NumbersFit costs (listed form units cost steps)
  sound_fit form =
      numbers_fit (listed form units cost steps) (sound_arcs form) (omega (arith, ints, sound_cap form))
      (costs_fit form)

-- adding an arc's forced and free part to the curve means the same as appending the arc
pub listed_added : (units cost units' cost' : ℤ) (steps steps' : List (ℤ × ℤ)) (a : CostArc)
    → pos 0 ≤ℤ units → (units ≡ pos 0 → cost ≡ pos 0) → AreSteps steps
    → pos 0 ≤ℤ units' → (units' ≡ pos 0 → cost' ≡ pos 0) → AreSteps steps'
    → units' ≡ units +ℤ a.low → cost' ≡ cost +ℤ (a.low *ℤ a.cost)
    → SameAbove (map step_arc steps') (free_arc a.cost (a.cap -ℤ a.low) ∷ map step_arc steps)
    → SameCurve (listed One units' cost' steps') (listed One units cost steps ++ a ∷ [])
listed_added units cost units' cost' steps steps' a h n s h' n' s' eu ec sa =
    let old = carried units cost steps h n s in
    let new = carried units' cost' steps' h' n' s' in
    add_end (fixed_arcs units cost) (fixed_arcs units' cost') (map step_arc steps)
    (map step_arc steps') a old.are.each new.are.each
    (new.units_is ∙ eu ∙ ap (λ z. z +ℤ a.low) (sym old.units_is))
    (new.cost_is ∙ ec ∙ ap (λ z. cost +ℤ z) (*ℤ_comm a.low a.cost) ∙ ap (λ z. z +ℤ (a.cost *ℤ a.low)) (sym old.cost_is))
    sa
