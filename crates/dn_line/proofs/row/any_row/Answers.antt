use Rattle.std.proofs.Common.{arith}
use Rattle.dn_line.proofs.RowLaws.{row_front}
use Rattle.dn_line.proofs.row.any_row.Goals as goal

pub returns : goal.returns
returns g c =
    row_front c.args.letter c.args.fields.now c.args.bytes.now _ _ c.in_ok-fitting.fitting.row c.requires.clear
    (omega arith) (omega arith) c.in_ok-after_blanks.ensures
    (rw (c.in_ok-fitting.ensures.row, c.in_ok-fitting.ensures.rest) c.in_ok-found.ensures) c.in_ok-fitting.ensures.fit
