use Rattle.std.proofs.Common.{refl}
use Rattle.dn_instance.proofs.FirstFaults.{first_is}
use Rattle.dn_laws.proofs.instances.examples.faults_of_fields.Goals as goal

pub returns : goal.returns
returns c = record {
  early = first_is _ _ _ refl;
  wrong = first_is _ _ _ refl;
  words = first_is _ _ _ refl;
  range = first_is _ _ _ refl;
  negative = first_is _ _ _ refl;
}
