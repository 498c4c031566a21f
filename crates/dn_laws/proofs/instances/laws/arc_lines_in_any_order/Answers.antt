use Rattle.dn_laws.proofs.texts.ArcOrderLaws.{arc_order}
use Rattle.dn_laws.proofs.instances.laws.arc_lines_in_any_order.Goals as goal

pub returns : goal.returns
returns c = arc_order
