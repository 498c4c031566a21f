use Rattle.std.proofs.Common.{arith}
use Rattle.dn_line.proofs.RowLaws.{row_front}
use Rattle.dn_line.proofs.row.short_row.Goals as goal

pub returns : goal.returns
returns g c =
    row_front c.args.letter c.args.fields.now c.args.bytes.now _ _ c.in_ok-found.found.row c.requires.clear
    (omega arith) (omega arith) c.in_ok-after_space.ensures.gap (rw c.requires.count c.in_ok-found.ensures.numbers)
    (rw c.requires.count c.in_ok-found.ensures.fit)
