use Rattle.std.proofs.Common.{refl}
use Rattle.dn_instance.proofs.FirstFaults.{first_is}
use Rattle.dn_laws.proofs.instances.examples.faults_by_kind.Goals as goal

pub returns : goal.returns
returns c = record { id = first_is _ _ _ refl; point = first_is _ _ _ refl; sum = first_is _ _ _ refl }
