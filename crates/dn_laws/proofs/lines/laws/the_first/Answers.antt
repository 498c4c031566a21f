use Rattle.dn_line.proofs.FaultLaws.{fault_found, found_fault, none_fails, fails_none}
use Rattle.dn_laws.proofs.lines.laws.the_first.Goals as goal

pub returns : goal.returns
returns c = record {
  found = λ ts code. (fault_found ts code, found_fault ts code);
  none = λ ts. (none_fails ts, fails_none ts);
}
