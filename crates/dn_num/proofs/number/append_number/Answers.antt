use Rattle.std.proofs.Common.{rules}
use Rattle.dn_num.proofs.number.append_number.Goals as goal

pub returns-clause-ok : goal.returns-clause-ok
returns-clause-ok c = search rules
