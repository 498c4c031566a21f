use Rattle.std.proofs.Common.{rules}
use Rattle.dn_table.proofs.table.PairsIterator.next.Goals as goal

pub returns-clause-steps : goal.returns-clause-steps
returns-clause-steps g c = search rules
