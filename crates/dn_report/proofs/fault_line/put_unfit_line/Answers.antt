use Rattle.std.proofs.Common.{rules}
use Rattle.dn_report.proofs.fault_line.put_unfit_line.Goals as goal

pub returns-in-NotKinds : goal.returns-in-NotKinds
returns-in-NotKinds g c = search rules
