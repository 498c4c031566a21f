use Rattle.std.proofs.Common.{rules}
use Rattle.dn_table.proofs.table.Table.pairs.Goals as goal

pub returns-clause-value : goal.returns-clause-value
returns-clause-value g c = search rules
