-- The arcs listed for forced units, their cost and breakpoints are canonical in each form, mean the same in both forms,
-- and have the total capacity. In form 1 they have these forced units at this cost.
use Rattle.std.proofs.Common.{◌≡◌, ℤ, pos, ◌+ℤ◌, ◌-ℤ◌, ◌*ℤ◌, ◌≤ℤ◌, ◌<ℤ◌, List, [], ◌∷◌, ◌++◌, filter, map, refl, sym, ap, arith, ◌∙◌}
use Rattle.std.proofs.lemmas.Int.{ints, by_lt_z}
use Rattle.std.proofs.Math.IntN.{*ℤ_comm}
use Rattle.std.specs.List.{AllByRecursion}
use Rattle.std.specs.Int.Signed.{≤ℤ_refl}
use Rattle.dn_arc_theory.specs.Kinds.{costs}
use Rattle.dn_arc_theory.specs.declared.arc.CostArc.{CostArc}
use Rattle.dn_arc_theory.specs.declared.arc.Form.{Form}
use Rattle.dn_arc_theory.specs.declared.arc.Form.TheVariants.{One, Two}
use Rattle.dn_arc_theory.specs.Meanings.{SameCurve}
use Rattle.dn_arc_theory.specs.Canonical.{IsCostArc, IsFixedArc, IsMixedArc, has_low, IsFormOne, IsFormTwo, AreCanonCosts}
use Rattle.dn_arc_theory.specs.Fillings.{forced_units, forced_cost}
use Rattle.dn_arc_theory.specs.State.Means.{IsFloor}
use Rattle.dn_arc_theory.specs.State.Steps.{AreSteps, steps_room}
use Rattle.dn_arc_theory.specs.State.CurveListed.{fixed_arc, step_arc, spread_arcs, fixed_arcs, listed}
use Rattle.dn_arc_theory.proofs.ProductsLaws.{mul_sub, mul_suc}
use Rattle.dn_arc_theory.proofs.MeansLaws.{floor_of}
use Rattle.dn_arc_theory.proofs.FormsLaws.{AreFixed, IsApart, apart, form_one_ordered, form_one_arcs, form_two_ordered, form_two_arcs}
use Rattle.dn_arc_theory.proofs.PartsLaws.{test_yes, test_no, free_parts}
use Rattle.dn_arc_theory.proofs.FillMeaningsLaws.{same_by_parts}
use Rattle.dn_arc_theory.proofs.StepArcsLaws.{free_arcs}
use Rattle.dn_arc_theory.proofs.JoinsLaws.{AreJoined, join_all}

-- fixed arcs that carry these units at this cost
pub record Carries (arcs : List CostArc) (units cost : ℤ) : Type 0 where
  pub are : AreFixed arcs
  pub units_is : forced_units arcs ≡ units
  pub cost_is : forced_cost arcs ≡ cost

two_cost : (units each rest cost : ℤ) → cost ≡ (each *ℤ units) +ℤ rest
    → (each *ℤ (units -ℤ rest)) +ℤ (((each +ℤ pos 1) *ℤ rest) +ℤ pos 0) ≡ cost
two_cost units each rest cost h =
    let g = *ℤ_comm (each +ℤ pos 1) rest ∙ mul_suc rest each ∙ ap (λ z. z +ℤ rest) (*ℤ_comm rest each) in
    omega (arith, ints, mul_sub each units rest)

pub spread_carries : (units each rest cost : ℤ) → pos 0 <ℤ units → IsFloor cost units each rest
    → Carries (spread_arcs units each rest) units cost
spread_carries units each rest cost h f =
    let e = f.whole in
    let l = f.low in
    by_lt_z (pos 0) rest
    (λ lt. rw test_yes (record {
      are = record {
        each = (two (units -ℤ rest) each (omega (arith, ints)), (two rest _ (omega (arith, ints)), tt));
        near = refl;
      };
      units_is = omega (arith, ints);
      cost_is = two_cost units each rest cost f.whole;
    }))
    (λ le. rw test_no (record {
      are = record { each = (two units each (omega (arith, ints)), tt); near = tt };
      units_is = omega (arith, ints);
      cost_is = omega (arith, ints);
    }))
  where
    two : (z c : ℤ) → pos 1 ≤ℤ z → IsFixedArc (fixed_arc z c)
    two z c h = record { some = h; full = refl }

pub fixed_carries : (units cost : ℤ) → pos 0 ≤ℤ units → (units ≡ pos 0 → cost ≡ pos 0)
    → Carries (fixed_arcs units cost) units cost
fixed_carries units cost h n =
    by_lt_z (pos 0) units
    (λ lt. simp test_yes (spread_carries units _ _ cost lt (floor_of cost units _ _ lt refl refl)))
    (λ le.
    let none : units ≡ pos 0 = omega (arith, ints) in
    simp test_no (record { are = record { each = tt; near = tt }; units_is = sym none; cost_is = sym (n none) }))

steps_mixed : (steps : List (ℤ × ℤ)) → AreSteps steps → AllByRecursion IsMixedArc (map step_arc steps)
steps_mixed [] s = tt
steps_mixed (step ∷ rest) s =
    (record { is_arc = record { some = ≤ℤ_refl _; room = omega (arith, ints) }; room = s.0 }, steps_mixed rest s.2)

pub steps_low : (steps : List (ℤ × ℤ)) → filter has_low (map step_arc steps) ≡ []
steps_low [] = refl
steps_low (step ∷ rest) = steps_low rest

-- the canonical arcs of forced units, their cost and breakpoints
module _ (units cost : ℤ) (steps : List (ℤ × ℤ)) (some : pos 0 ≤ℤ units) (none : units ≡ pos 0 → cost ≡ pos 0)
    (ascending : AreSteps steps) where
  pub carried : Carries (fixed_arcs units cost) units cost
  carried = fixed_carries units cost some none

  pub listed_one : IsFormOne (listed One units cost steps)
  listed_one = record {
    fixed = fixed_arcs units cost;
    free = map step_arc steps;
    parts = refl;
    each_fixed = carried.are.each;
    near = carried.are.near;
    each_free = (free_arcs steps ascending).each;
    ascending = (free_arcs steps ascending).ascending;
  }

  joins : AreJoined (fixed_arcs units cost) (map step_arc steps) (listed Two units cost steps)
  joins =
      join_all (fixed_arcs units cost) (map step_arc steps) carried.are (steps_mixed steps ascending)
      (free_arcs steps ascending).ascending (steps_low steps)

  pub listed_two : IsFormTwo (listed Two units cost steps)
  listed_two = record { each = joins.each; ascending = joins.ascending; near = joins.near }

  pub listed_canonical : (form : Form) → AreCanonCosts form (listed form units cost steps)
  listed_canonical One = listed_one
  listed_canonical Two = listed_two

steps_units : (steps : List (ℤ × ℤ)) → forced_units (map step_arc steps) ≡ pos 0
steps_units [] = refl
steps_units (step ∷ rest) = omega (arith, ints, steps_units rest)

steps_cost : (steps : List (ℤ × ℤ)) → forced_cost (map step_arc steps) ≡ pos 0
steps_cost [] = refl
steps_cost (step ∷ rest) = let i = steps_cost rest in let z : step.0 *ℤ pos 0 ≡ pos 0 = omega (arith, ints) in
    omega (arith, ints)

steps_cap : (steps : List (ℤ × ℤ)) → costs.capacity (map step_arc steps) ≡ steps_room steps
steps_cap [] = refl
steps_cap (step ∷ rest) = ap (λ z. step.1 +ℤ z) (steps_cap rest)

-- the sums over fixed arcs followed by free arcs
record AreSums (fixed free : List CostArc) : Type 0 where
  units : forced_units (fixed ++ free) ≡ forced_units fixed +ℤ forced_units free
  cost : forced_cost (fixed ++ free) ≡ forced_cost fixed +ℤ forced_cost free
  cap : costs.capacity (fixed ++ free) ≡ forced_units fixed +ℤ costs.capacity free
  full : costs.capacity fixed ≡ forced_units fixed
  parts : free_parts (fixed ++ free) ≡ free_parts free

sums : (fixed free : List CostArc) → AllByRecursion IsFixedArc fixed → AreSums fixed free
sums [] free f =
    record
    { units = omega (arith, ints); cost = omega (arith, ints); cap = omega (arith, ints); full = refl; parts = refl }
sums (a ∷ fixed) free f =
    let i = sums fixed free f.1 in
    let l = i.full in
    let none : a.cap ≤ℤ a.low = omega (arith, ints) in
    record {
      units = omega (arith, ints);
      cost = omega (arith, ints);
      cap = omega (arith, ints);
      full = omega (arith, ints);
      parts = rw test_no i.parts;
    }

module _ (units cost : ℤ) (steps : List (ℤ × ℤ)) (some : pos 0 ≤ℤ units) (none : units ≡ pos 0 → cost ≡ pos 0)
    (ascending : AreSteps steps) where
  abbrev fixed : Carries (fixed_arcs units cost) units cost
  fixed = carried units cost steps some none ascending

  abbrev join : AreJoined (fixed_arcs units cost) (map step_arc steps) (listed Two units cost steps)
  join = joins units cost steps some none ascending

  all : AreSums (fixed_arcs units cost) (map step_arc steps)
  all = sums (fixed_arcs units cost) (map step_arc steps) fixed.are.each

  -- the arcs of form 1 are filled as the fixed arcs and the breakpoints
  pub listed_apart : IsApart (listed One units cost steps) (fixed_arcs units cost) (map step_arc steps)
  listed_apart = apart (fixed_arcs units cost) (map step_arc steps) fixed.are.each (free_arcs steps ascending)

  pub listed_units : forced_units (listed One units cost steps) ≡ units
  listed_units = omega (arith, ints, steps_units steps, fixed.units_is, all.units)

  pub listed_cost : forced_cost (listed One units cost steps) ≡ cost
  listed_cost = omega (arith, ints, steps_cost steps, fixed.cost_is, all.cost)

  pub listed_cap : (form : Form) → costs.capacity (listed form units cost steps) ≡ units +ℤ steps_room steps
  listed_cap One = omega (arith, ints, steps_cap steps, fixed.units_is, all.cap)
  listed_cap Two = let e = join.cap in let f = fixed.units_is in let g = steps_cap steps in let h = all.full in
      omega (arith, ints)

  -- both forms mean the same
  pub listed_same : SameCurve (listed Two units cost steps) (listed One units cost steps)
  listed_same =
      same_by_parts (listed Two units cost steps) (listed One units cost steps)
      (form_two_ordered _ (listed_two units cost steps some none ascending))
      (form_one_ordered _ (listed_one units cost steps some none ascending)) (join.units ∙ sym all.units)
      (join.cost ∙ sym all.cost) (join.parts ∙ sym all.parts)

  pub listed_arcs : (form : Form) → AllByRecursion IsCostArc (listed form units cost steps)
  listed_arcs One = form_one_arcs _ (listed_one units cost steps some none ascending)
  listed_arcs Two = form_two_arcs _ (listed_two units cost steps some none ascending)
