use Rattle.dn_arc_theory.specs.Meanings.{SameLength, SameTotal, SameCurve}
use Rattle.dn_arc_theory.proofs.OrdersLaws.{same_joined}
use Rattle.dn_arc_theory.proofs.LengthsLaws.{length_meaning}
use Rattle.dn_arc_theory.proofs.TotalsLaws.{total_meaning}
use Rattle.dn_arc_theory.proofs.CurvesLaws.{curve_meaning}
use Rattle.dn_laws.proofs.bundles.laws.put_together.Goals as goal

pub returns : goal.returns
returns c = record {
  lengths = same_joined SameLength length_meaning;
  capacities = same_joined SameTotal total_meaning;
  costs = same_joined SameCurve curve_meaning;
}
