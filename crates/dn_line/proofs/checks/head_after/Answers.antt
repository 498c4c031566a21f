use Rattle.std.proofs.Common.{rules}
use Rattle.dn_line.proofs.checks.head_after.Goals as goal

pub returns-in-Some-N-Some : goal.returns-in-Some-N-Some
returns-in-Some-N-Some c = search rules
