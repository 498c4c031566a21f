use Rattle.std.proofs.Common.{refl, rules, FitsSigned, w64, to_z-of_z}
use Rattle.dn_sink.proofs.PutLaws.{put_from}
use Rattle.dn_canon.proofs.BlockLaws.{pass_stopped}
use Rattle.dn_canon.proofs.PutLaws.{row_more, row_stop}
use Rattle.dn_canon.specs.Prints.{supply_row}
use Rattle.dn_canon.proofs.writer.put_supplies.Goals as goal

pub loop-id-init : goal.loop-id-init
loop-id-init g c = put_from (rw (c.into_iter-id-iterator.ensures.into_iter_gives, c.iter-id-items.ensures.value))

pub loop-id-preserved : goal.loop-id-preserved
loop-id-preserved g c =
    let id : FitsSigned w64 c.in-Some.id = search rules in
    row_more supply_row c.loop-id.block c.in-Some.ensures.steps refl c.loop-id.invariant
    (simp to_z-of_z at c.in_ok-supply_line.ensures)

pub returns-in_err-supply_line : goal.returns-in_err-supply_line
returns-in_err-supply_line g c =
    let id : FitsSigned w64 c.in-Some.id = search rules in
    pass_stopped _ _ c.from_residual.ensures.0
    (row_stop supply_row c.loop-id.block c.in-Some.ensures.steps refl c.loop-id.invariant
    (simp to_z-of_z at c.in_err-supply_line.ensures))
