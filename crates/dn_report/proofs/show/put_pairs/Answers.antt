use Rattle.dn_arc_theory.specs.declared.arc.Form.TheVariants.{One}
use Rattle.dn_sink.proofs.PutLaws.{put_from, put_more, put_stop, stopped}
use Rattle.dn_report.proofs.ShowLaws.{pair_next}
use Rattle.dn_report.proofs.show.put_pairs.Goals as goal

pub loop-pair-init : goal.loop-pair-init
loop-pair-init g c = put_from (rw (c.into_iter-pair-iterator.ensures.into_iter_gives, c.pairs-pair-items.ensures.value))

pub loop-pair-preserved : goal.loop-pair-preserved
loop-pair-preserved g c =
    put_more
    (rw (pair_next g.B.PairLine.words (g.B.Bundle.bundle.listed One) c.in-Some.ensures.steps c.make_line.ensures)
    at c.loop-pair.invariant) c.in_ok-put.ensures

pub returns-in_err-put : goal.returns-in_err-put
returns-in_err-put g c =
    stopped _ c.from_residual.ensures.0
    (put_stop _ _
    (rw (pair_next g.B.PairLine.words (g.B.Bundle.bundle.listed One) c.in-Some.ensures.steps c.make_line.ensures)
    at c.loop-pair.invariant) c.in_err-put.ensures)
