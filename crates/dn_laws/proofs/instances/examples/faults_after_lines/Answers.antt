use Rattle.std.proofs.Common.{refl}
use Rattle.dn_instance.proofs.FirstFaults.{first_is}
use Rattle.dn_laws.proofs.instances.examples.faults_after_lines.Goals as goal

pub returns : goal.returns
returns c = record {
  second_problem = first_is _ _ _ refl;
  late_node = first_is _ _ _ refl;
  late_before_fields = first_is _ _ _ refl;
  count_before_fields = first_is _ _ _ refl;
  too_many = first_is _ _ _ refl;
}
