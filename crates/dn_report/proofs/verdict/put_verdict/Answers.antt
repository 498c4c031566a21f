use Rattle.dn_sink.proofs.PutLaws.{put_flushed, stopped}
use Rattle.dn_report.proofs.verdict.put_verdict.Goals as goal

pub returns-in_err-put-clause-text : goal.returns-in_err-put-clause-text
returns-in_err-put-clause-text g c =
    stopped _ c.from_residual.ensures.0 (rw c.verdict_line.ensures at c.in_err-put.ensures)

pub returns-clause-text : goal.returns-clause-text
returns-clause-text g c =
    put_flushed g.K.Sink.sink _ _ _ _ _ (rw c.verdict_line.ensures at c.in_ok-put.ensures) c.flush.ensures
