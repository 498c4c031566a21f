use Rattle.std.proofs.Common.{refl}
use Rattle.dn_instance.proofs.FirstFaults.{first_is}
use Rattle.dn_laws.proofs.instances.examples.faults_of_a_line.Goals as goal

pub returns : goal.returns
returns c = record {
  bad_word = first_is _ _ _ refl;
  blank_lines_count = first_is _ _ _ refl;
  unfinished_name = first_is _ _ _ refl;
  word_before_range = first_is _ _ _ refl;
  letter_before_node = first_is _ _ _ refl;
}
