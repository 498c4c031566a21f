use Rattle.std.proofs.Common.{rules}
use Rattle.dn_report.proofs.check.forms_line.Goals as goal

pub returns-in-false-true : goal.returns-in-false-true
returns-in-false-true c = search rules
