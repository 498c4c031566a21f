-- Lemmas on the worked bundle: its least costs of 2 and of 5 units, that its arcs in form 1 are canonical, and that its
-- arcs in either form mean the same as it.
use Rattle.std.proofs.Common.{arith, rules}
use Rattle.std.proofs.lemmas.Int.{ints}
use Rattle.std.specs.Prelude.{pos, List, [], ◌∷◌, refl}
use Rattle.dn_arc_theory.specs.declared.arc.CostArc.{CostArc}
use Rattle.dn_arc_theory.specs.Splits.{LeastCost}
use Rattle.dn_arc_theory.specs.Meanings.{SameCurve}
use Rattle.dn_arc_theory.specs.Canonical.{IsFormOne}
use Rattle.dn_laws.specs.State.BundleExamples.{arc, worked, worked_one, worked_two}
use Rattle.dn_arc_theory.proofs.CurvesLaws.{curve_meaning}
use Rattle.dn_arc_theory.proofs.FillsLaws.{AreOrdered, least_of_filling}
use Rattle.dn_arc_theory.proofs.FormsLaws.{form_one_ordered}
use Rattle.dn_arc_theory.proofs.FillMeaningsLaws.{same_by_parts}

-- the worked arcs by cost
abbrev by_cost : List CostArc
by_cost = arc (pos 1) (pos 3) (pos 0) ∷ arc (pos 0) (pos 4) (pos 1) ∷ arc (pos 1) (pos 2) (pos 3) ∷ []

by_cost_same : SameCurve by_cost worked
by_cost_same =
    curve_meaning.same_more _ _ _
    (curve_meaning.same_swap (arc (pos 0) (pos 4) (pos 1)) (arc (pos 1) (pos 2) (pos 3)) [])

by_cost_ordered : AreOrdered by_cost
by_cost_ordered = search rules

pub worked_at_two : LeastCost worked (pos 2) (pos 3)
worked_at_two =
    by_cost_same.there (pos 2) (pos 3)
    (least_of_filling by_cost (pos 2) (pos 3) by_cost_ordered
    (record { low = omega (arith, ints); high = omega (arith, ints); cost = refl }))

pub worked_at_five : LeastCost worked (pos 5) (pos 4)
worked_at_five =
    by_cost_same.there (pos 5) (pos 4)
    (least_of_filling by_cost (pos 5) (pos 4) by_cost_ordered
    (record { low = omega (arith, ints); high = omega (arith, ints); cost = refl }))

pub worked_form_one : IsFormOne worked_one
worked_form_one = record {
  fixed = arc (pos 1) (pos 1) (pos 1) ∷ arc (pos 1) (pos 1) (pos 2) ∷ [];
  free = arc (pos 0) (pos 2) (pos 0) ∷ arc (pos 0) (pos 4) (pos 1) ∷ arc (pos 0) (pos 1) (pos 3) ∷ [];
  parts = refl;
  each_fixed = search rules;
  near = refl;
  each_free = search rules;
  ascending = search rules;
}

pub worked_same_one : SameCurve worked_one worked
worked_same_one =
    curve_meaning.same_trans _ _ _
    (same_by_parts worked_one by_cost
    (form_one_ordered worked_one worked_form_one) by_cost_ordered refl refl refl) by_cost_same

worked_two_ordered : AreOrdered worked_two
worked_two_ordered = search rules

pub worked_same_two : SameCurve worked_two worked
worked_same_two =
    curve_meaning.same_trans _ _ _
    (same_by_parts worked_two by_cost worked_two_ordered by_cost_ordered refl refl refl) by_cost_same
