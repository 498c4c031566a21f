use Rattle.dn_laws.proofs.instances.PartLaws.{parts_same}
use Rattle.dn_laws.proofs.instances.laws.in_parts.Goals as goal

pub returns : goal.returns
returns c = parts_same
