use Rattle.dn_sink.proofs.PutLaws.{put_from}
use Rattle.dn_canon.proofs.BlockLaws.{pass_more, pass_stop, pass_stopped}
use Rattle.dn_canon.proofs.PutLaws.{bundle_text}
use Rattle.dn_canon.proofs.writer.put_table.Goals as goal

pub loop-pair-init : goal.loop-pair-init
loop-pair-init g c = put_from (rw (c.into_iter-pair-iterator.ensures.into_iter_gives, c.pairs-pair-items.ensures.value))

pub loop-pair-preserved : goal.loop-pair-preserved
loop-pair-preserved g c =
    pass_more c.loop-pair.block _ _
    (rw (bundle_text g.B.Bundle.bundle.kind (g.B.Bundle.bundle.listed c.args.form) c.in-Some.ensures.steps)
    at c.loop-pair.invariant)
    c.in_ok-put_bundle.ensures

pub returns-in_err-put_bundle : goal.returns-in_err-put_bundle
returns-in_err-put_bundle g c =
    pass_stopped _ _ c.from_residual.ensures.0
    (pass_stop c.loop-pair.block _ _
    (rw (bundle_text g.B.Bundle.bundle.kind (g.B.Bundle.bundle.listed c.args.form) c.in-Some.ensures.steps)
    at c.loop-pair.invariant)
    c.in_err-put_bundle.ensures)
