use Rattle.dn_sink.proofs.PutLaws.{put_flushed}
use Rattle.dn_report.proofs.check.put_checked.Goals as goal

pub returns-clause-text : goal.returns-clause-text
returns-clause-text g c = put_flushed g.K.Sink.sink _ _ _ _ _ c.in_ok-put_findings.ensures c.flush.ensures
