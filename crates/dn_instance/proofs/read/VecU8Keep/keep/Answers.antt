use Rattle.std.proofs.Common.{rules}
use Rattle.dn_instance.proofs.read.VecU8Keep.keep.Goals as goal

pub returns-in-Ok-clause-ok : goal.returns-in-Ok-clause-ok
returns-in-Ok-clause-ok c = search rules
