use Rattle.std.proofs.Common.{◌-◌, length, arith}
use Rattle.std.proofs.lemmas.Bool.Decides.{nat_tests}
use Rattle.dn_line.proofs.RowBlockLaws.{last_tells}
use Rattle.dn_line.proofs.row_block.left_behind.Goals as goal

pub returns-else-is_empty : goal.returns-else-is_empty
returns-else-is_empty c =
    last_tells c.args.all c.args.rows.now (length c.args.rows.now - 1) _
    (grind (arith, nat_tests, c.is_empty.ensures, c.if-is_empty.false))
