use Rattle.std.proofs.Common.{rules}
use Rattle.dn_num.proofs.number_reader.signed.Goals as goal

pub returns-then-magnitude-3 : goal.returns-then-magnitude-3
returns-then-magnitude-3 c = search rules
