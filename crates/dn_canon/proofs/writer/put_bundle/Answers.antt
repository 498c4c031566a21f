use Rattle.std.proofs.Common.{refl, sym, ap, ◌∙◌, arith}
use Rattle.dn_canon.specs.Prints.{arc_row}
use Rattle.dn_canon.specs.State.ListedArcs.{placed}
use Rattle.dn_sink.proofs.PutLaws.{put_from}
use Rattle.dn_canon.proofs.BlockLaws.{line_passes, pass_stopped, prefix_more}
use Rattle.dn_canon.proofs.LineLaws.{drop_get}
use Rattle.dn_canon.proofs.PutLaws.{row_more, row_stop, some_below, arc_text}
use Rattle.dn_canon.proofs.writer.put_bundle.Goals as goal
use Rattle.dn_canon.proofs.writer.put_bundle.Goals.{in-Some+in_ok-make_room, in_default}

pub loop-init : goal.loop-init
loop-init g c = record { next = c.canon_arc-next.ensures; has = put_from refl }

pub returns-in_err-make_room : goal.returns-in_err-make_room
returns-in_err-make_room g c =
    let listed = g.B.Bundle.bundle.listed c.args.form c.args.bundle.now in
    pass_stopped _ _ c.from_residual.ensures.0
    (row_stop (arc_row g.B.Bundle.bundle.kind) c.loop.block
    (ap (placed c.args.pair.now) (drop_get listed c.loop.counter c.in-Some.arc
    (sym c.loop.invariant.next ∙ c.in-Some.is)))
    (arc_text g.B.Bundle.bundle.kind c.args.pair.now _ refl (g.met.B.Bundle.same_numbers c.in-Some.arc))
    c.loop.invariant.has (prefix_more _ c.in_err-make_room.ensures.put))

pub loop-preserved : goal.loop-preserved
loop-preserved g c =
    let listed = g.B.Bundle.bundle.listed c.args.form c.args.bundle.now in
    elim c.match-next.branch [
      | in-Some+in_ok-make_room w ↦
          let here = sym c.loop.invariant.next ∙ w.in-Some.is in
          record {
            next = w.next-is ∙ w.canon_after-next.ensures.after c.loop.counter here;
            has =
                rw (w.sink-is, w.block-is)
                (row_more (arc_row g.B.Bundle.bundle.kind) c.loop.block
                (ap (placed c.args.pair.now) (drop_get listed c.loop.counter w.in-Some.arc here))
                (arc_text g.B.Bundle.bundle.kind c.args.pair.now _ refl (g.met.B.Bundle.same_numbers w.in-Some.arc))
                c.loop.invariant.has (line_passes _ w.arc.ensures w.in_ok-make_room.ensures.put));
          }
      | in_default w ↦ absurd
          (some_below _ c.loop.counter c.loop.next (omega arith) c.loop.invariant.next w.in_default.not-Some)
    ]
