use Rattle.dn_sink.proofs.PutLaws.{put_flushed, stopped}
use Rattle.dn_report.proofs.MeantRows.{held_shown}
use Rattle.dn_report.proofs.show.put_shown.Goals as goal

pub returns-in_err-put_held-clause-text : goal.returns-in_err-put_held-clause-text
returns-in_err-put_held-clause-text g c =
    (_, stopped _ c.from_residual.ensures.0 c.in_err-put_held.ensures, held_shown c.args.held.now)

pub returns-clause-text : goal.returns-clause-text
returns-clause-text g c = (
  _,
  put_flushed g.K.Sink.sink _ _ _ _ _ c.in_ok-put_held.ensures c.flush.ensures,
  held_shown c.args.held.now,
)
