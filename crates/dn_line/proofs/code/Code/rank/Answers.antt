use Rattle.std.proofs.Common.{rules}
use Rattle.dn_line.proofs.code.Code.rank.Goals as goal

pub returns-in-Negative : goal.returns-in-Negative
returns-in-Negative c = search rules
