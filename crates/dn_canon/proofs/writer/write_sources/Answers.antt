use Rattle.std.proofs.Common.{refl, pos}
use Rattle.std.proofs.lemmas.List.{drop_more}
use Rattle.dn_canon.specs.Prints.{source_row}
use Rattle.dn_sink.proofs.PutLaws.{stopped}
use Rattle.dn_canon.proofs.BlockLaws.{put_block}
use Rattle.dn_canon.proofs.PutLaws.{row_more, row_stop, rows_done}
use Rattle.dn_canon.proofs.writer.write_sources.Goals as goal

pub returns-in_err-source_line-clause-text : goal.returns-in_err-source_line-clause-text
returns-in_err-source_line-clause-text g c =
    stopped _ c.from_residual.ensures.0
    (row_stop source_row c.loop-id.block (drop_more _ c.loop-id.id-index (pos 0) c.loop-id-test.true) refl
    c.loop-id.invariant c.in_err-source_line.ensures)

pub loop-id-preserved : goal.loop-id-preserved
loop-id-preserved g c =
    row_more source_row c.loop-id.block (drop_more _ c.loop-id.id-index (pos 0) c.loop-id-test.true) refl
    c.loop-id.invariant c.in_ok-source_line.ensures

pub returns-clause-text : goal.returns-clause-text
returns-clause-text g c =
    put_block _ _ c.bytes.ensures
    (rows_done source_row c.loop-id.block _ c.loop-id.id-index c.loop-id-test.false c.loop-id.invariant)
    c.put_and_flush.ensures.puts
