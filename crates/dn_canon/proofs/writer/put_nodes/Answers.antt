use Rattle.std.proofs.Common.{ap, ◌++◌}
use Rattle.dn_sink.proofs.PutLaws.{put_from}
use Rattle.dn_canon.proofs.BlockLaws.{pass_more, pass_stop, pass_last, pass_stopped}
use Rattle.dn_canon.proofs.PutLaws.{terminals_text}
use Rattle.dn_canon.proofs.writer.put_nodes.Goals as goal

pub returns-in_err-max_source_line-in-Terminals : goal.returns-in_err-max_source_line-in-Terminals
returns-in_err-max_source_line-in-Terminals g c =
    pass_stopped _ _ c.from_residual.ensures.0
    (pass_stop c.args.block.now _ _ (put_from (ap (λ l. c.args.block.now ++ l) (terminals_text c.in-Terminals.is)))
    c.in_err-max_source_line-in-Terminals.ensures)

pub returns-in_ok-max_source_line-in-Terminals : goal.returns-in_ok-max_source_line-in-Terminals
returns-in_ok-max_source_line-in-Terminals g c =
    pass_last _ _ _
    (pass_more c.args.block.now _ _ (put_from (ap (λ l. c.args.block.now ++ l) (terminals_text c.in-Terminals.is)))
    c.in_ok-max_source_line-in-Terminals.ensures)
    c.max_sink_line.ensures
