use Rattle.dn_arc_theory.specs.Meanings.{SameLength, SameTotal, SameCurve}
use Rattle.dn_arc_theory.proofs.OrdersLaws.{same_push}
use Rattle.dn_arc_theory.proofs.LengthsLaws.{length_meaning}
use Rattle.dn_arc_theory.proofs.TotalsLaws.{total_meaning}
use Rattle.dn_arc_theory.proofs.CurvesLaws.{curve_meaning}
use Rattle.dn_laws.proofs.bundles.laws.one_more.Goals as goal

pub returns : goal.returns
returns c = record {
  lengths = same_push SameLength length_meaning;
  capacities = same_push SameTotal total_meaning;
  costs = same_push SameCurve curve_meaning;
}
