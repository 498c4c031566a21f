use Rattle.std.proofs.Common.{rules}
use Rattle.dn_line.proofs.code.Code.number.Goals as goal

pub returns-in-SumTooLarge : goal.returns-in-SumTooLarge
returns-in-SumTooLarge c = search rules
