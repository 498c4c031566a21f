use Rattle.std.proofs.Common.{rules}
use Rattle.dn_line.proofs.row_block.RowBlock.rows.Goals as goal

pub returns-clause-rows : goal.returns-clause-rows
returns-clause-rows c = search rules
