-- The canonical arcs that each kind of bundle lists.
use Rattle.std.specs.Prelude.{List}
use Rattle.dn_arc_theory.specs.declared.arc.LengthArc.{LengthArc}
use Rattle.dn_arc_theory.specs.declared.arc.CapArc.{CapArc}
use Rattle.dn_arc_theory.specs.declared.arc.CostArc.{CostArc}
use Rattle.dn_arc_theory.specs.declared.arc.Form.{Form}
use Rattle.dn_arc_theory.specs.declared.arc.Form.TheVariants.{One}
use Rattle.dn_bundle.specs.declared.least.Least.{Least}
use Rattle.dn_bundle.specs.declared.total.Total.{Total}
use Rattle.dn_bundle.specs.declared.curve.Curve.{Curve}
use Rattle.dn_arc_theory.specs.State.SingleArcs.{length_listed, cap_listed}
use Rattle.dn_arc_theory.specs.State.CurveListed.{listed}

-- one arc of the least length, or no arc if there is none
abbrev pub least_arcs : Least → List LengthArc
least_arcs b = length_listed b.length

-- one arc of the total capacity, or no arc if the total is 0
abbrev pub total_arcs : Total → List CapArc
total_arcs b = cap_listed b.total

-- the canonical arcs in this form
abbrev pub curve_arcs : Form → Curve → List CostArc
curve_arcs form b = listed form b.units b.cost b.steps

-- the canonical arcs in form 1
abbrev pub form_one_arcs : Curve → List CostArc
form_one_arcs b = curve_arcs One b
