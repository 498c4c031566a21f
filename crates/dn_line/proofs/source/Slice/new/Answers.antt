use Rattle.std.proofs.Common.{rules}
use Rattle.dn_line.proofs.source.Slice.new.Goals as goal

pub returns-clause-gives : goal.returns-clause-gives
returns-clause-gives c = search rules
