use Rattle.std.proofs.Common.{refl, rules, FitsSigned, w64, to_z-of_z}
use Rattle.dn_canon.specs.Prints.{point_row}
use Rattle.dn_sink.proofs.PutLaws.{put_from, stopped}
use Rattle.dn_canon.proofs.BlockLaws.{all_done, put_block}
use Rattle.dn_canon.proofs.PutLaws.{row_more, row_stop}
use Rattle.dn_canon.proofs.writer.write_points.Goals as goal

pub loop-id-init : goal.loop-id-init
loop-id-init g c =
    put_from (rw (
      c.companion_line.ensures,
      c.new-block.ensures,
      c.len.ensures.value,
      c.into_iter-id-iterator.ensures.into_iter_gives,
      c.iter-id-items.ensures.value,
    ))

pub loop-id-preserved : goal.loop-id-preserved
loop-id-preserved g c =
    let id : FitsSigned w64 c.in-Some.id = search rules in
    row_more point_row c.loop-id.block c.in-Some.ensures.steps refl c.loop-id.invariant
    (simp to_z-of_z at c.in_ok-point_line.ensures)

pub returns-in_err-point_line-clause-text : goal.returns-in_err-point_line-clause-text
returns-in_err-point_line-clause-text g c =
    let id : FitsSigned w64 c.in-Some.id = search rules in
    stopped _ c.from_residual.ensures.0
    (row_stop point_row c.loop-id.block c.in-Some.ensures.steps refl c.loop-id.invariant
    (simp to_z-of_z at c.in_err-point_line.ensures))

pub returns-clause-text : goal.returns-clause-text
returns-clause-text g c =
    put_block _ _ c.bytes.ensures
    (all_done c.loop-id.block _ (rw c.in-None.ensures.steps.0) c.loop-id.invariant) c.put_and_flush.ensures.puts
