use Rattle.std.proofs.Common.{rules}
use Rattle.dn_table.proofs.table.Table.len.Goals as goal

pub returns : goal.returns
returns g c = search rules
