use Rattle.dn_canon.proofs.RunLaws.{run_written, run_refused}
use Rattle.dn_canon.proofs.canon.canon_run.Goals as goal

pub returns-in-Ok-clause-outcome : goal.returns-in-Ok-clause-outcome
returns-in-Ok-clause-outcome g c =
    run_written g.K.Sink.sink _ _ _ (g.S.ByteSource.source.gives c.args.source.now) _ c.in-Ok.held _
    c.in-Ok.ensures.outcome
    c.write_canon-written.ensures.canon

pub returns-in-Err-clause-outcome : goal.returns-in-Err-clause-outcome
returns-in-Err-clause-outcome g c =
    run_refused g.K.Sink.sink _ _ _ (g.S.ByteSource.source.gives c.args.source.now) _ c.in-Err.refusal
    c.in-Err.ensures.outcome
