use Rattle.std.proofs.Common.{rules}
use Rattle.dn_canon.proofs.canon.written.Goals as goal

pub returns-in-Err : goal.returns-in-Err
returns-in-Err c = search rules
