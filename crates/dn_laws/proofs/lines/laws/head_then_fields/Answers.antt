use Rattle.dn_line.proofs.FaultLaws.{head_then_fields}
use Rattle.dn_laws.proofs.lines.laws.head_then_fields.Goals as goal

pub returns : goal.returns
returns c = head_then_fields
