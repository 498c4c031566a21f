use Rattle.std.proofs.Common.{refl}
use Rattle.dn_instance.proofs.FirstFaults.{first_is, clean_is}
use Rattle.dn_laws.proofs.instances.examples.faults_of_whole_texts.Goals as goal

pub returns : goal.returns
returns c = record {
  sum = first_is _ _ _ refl;
  no_problem = record { clean = clean_is _ refl; fault_is = refl };
  missing_terminal = record { clean = clean_is _ refl; fault_is = refl };
  too_few = record { clean = clean_is _ refl; fault_is = refl };
  earliest = first_is _ _ _ refl;
}
