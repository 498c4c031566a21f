use Rattle.dn_arc_theory.specs.Meanings.{SameLength, SameTotal, SameCurve}
use Rattle.dn_arc_theory.proofs.OrdersLaws.{any_order}
use Rattle.dn_arc_theory.proofs.LengthsLaws.{length_meaning}
use Rattle.dn_arc_theory.proofs.TotalsLaws.{total_meaning}
use Rattle.dn_arc_theory.proofs.CurvesLaws.{curve_meaning}
use Rattle.dn_laws.proofs.bundles.laws.any_order.Goals as goal

pub returns : goal.returns
returns c = record {
  lengths = any_order SameLength length_meaning;
  capacities = any_order SameTotal total_meaning;
  costs = any_order SameCurve curve_meaning;
}
