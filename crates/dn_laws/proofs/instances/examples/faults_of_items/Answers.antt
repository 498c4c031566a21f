use Rattle.std.proofs.Common.{refl}
use Rattle.dn_instance.proofs.FirstFaults.{first_is}
use Rattle.dn_laws.proofs.instances.examples.faults_of_items.Goals as goal

pub returns : goal.returns
returns c = record {
  stray = first_is _ _ _ refl;
  repeated = first_is _ _ _ refl;
  zero_flow_repeated = first_is _ _ _ refl;
  same_terminal = first_is _ _ _ refl;
  low_above_cap = first_is _ _ _ refl;
}
