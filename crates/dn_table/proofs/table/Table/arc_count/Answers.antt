use Rattle.std.proofs.Common.{rules}
use Rattle.dn_table.proofs.table.Table.arc_count.Goals as goal

pub returns-clause-count : goal.returns-clause-count
returns-clause-count g c = search rules
