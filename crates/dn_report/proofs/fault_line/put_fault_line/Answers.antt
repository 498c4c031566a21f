use Rattle.std.proofs.Common.{rules}
use Rattle.dn_report.proofs.fault_line.put_fault_line.Goals as goal

pub returns-in-Text-End-default : goal.returns-in-Text-End-default
returns-in-Text-End-default g c = search rules
