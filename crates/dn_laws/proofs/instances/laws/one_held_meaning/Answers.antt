use Rattle.dn_instance.proofs.SameLaws.{held_one}
use Rattle.dn_laws.proofs.instances.laws.one_held_meaning.Goals as goal

pub returns : goal.returns
returns c = held_one
