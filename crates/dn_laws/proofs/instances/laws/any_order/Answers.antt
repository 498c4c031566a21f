use Rattle.dn_arc_theory.specs.Kinds.{lengths, capacities, costs}
use Rattle.dn_arc_theory.proofs.LengthsLaws.{length_meaning}
use Rattle.dn_arc_theory.proofs.TotalsLaws.{total_meaning}
use Rattle.dn_arc_theory.proofs.CurvesLaws.{curve_meaning}
use Rattle.dn_instance.proofs.SameLaws.{graph_order}
use Rattle.dn_laws.proofs.instances.laws.any_order.Goals as goal

pub returns : goal.returns
returns c = record {
  lengths = graph_order lengths length_meaning;
  capacities = graph_order capacities total_meaning;
  costs = graph_order costs curve_meaning;
}
