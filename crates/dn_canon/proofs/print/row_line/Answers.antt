use Rattle.dn_canon.proofs.BlockLaws.{line_passes, prefix_more, pass_stopped}
use Rattle.dn_canon.proofs.print.row_line.Goals as goal

pub returns-in_err-make_room : goal.returns-in_err-make_room
returns-in_err-make_room g c =
    pass_stopped _ _ c.from_residual.ensures.0 (prefix_more _ c.in_err-make_room.ensures.put)

pub returns : goal.returns
returns g c = line_passes _ c.line.ensures c.in_ok-make_room.ensures.put
