use Rattle.std.proofs.Common.{rules}
use Rattle.dn_line.proofs.row_block.RowBlock.new.Goals as goal

pub returns : goal.returns
returns c = search rules
