use Rattle.dn_instance.proofs.ValidLaws.{reads_valid}
use Rattle.dn_laws.proofs.instances.laws.valid_reading.Goals as goal

pub returns : goal.returns
returns c = reads_valid
