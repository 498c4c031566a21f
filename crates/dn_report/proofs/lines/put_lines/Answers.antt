use Rattle.std.proofs.Common.{refl, arith}
use Rattle.std.proofs.lemmas.List.{drop_all, drop_more}
use Rattle.dn_sink.proofs.PutLaws.{put_from, put_more, put_stop, stopped}
use Rattle.dn_report.proofs.lines.put_lines.Goals as goal

pub loop-line-init : goal.loop-line-init
loop-line-init g c = put_from refl

pub loop-line-preserved : goal.loop-line-preserved
loop-line-preserved g c =
    put_more
    (rw (drop_more c.args.lines.now c.loop-line.line-index c.line-item.result c.loop-line-test.true, ← c.line-item.is)
    at c.loop-line.invariant) c.in_ok-put.ensures

pub returns-in_err-put : goal.returns-in_err-put
returns-in_err-put g c =
    stopped _ c.from_residual.ensures.0
    (put_stop c.line-item.result _
    (rw (drop_more c.args.lines.now c.loop-line.line-index c.line-item.result c.loop-line-test.true, ← c.line-item.is)
    at c.loop-line.invariant) c.in_err-put.ensures)

pub returns : goal.returns
returns g c =
    rw (drop_all c.loop-line.line-index c.args.lines.now (omega (arith, c.loop-line-test.false)))
    at c.loop-line.invariant
