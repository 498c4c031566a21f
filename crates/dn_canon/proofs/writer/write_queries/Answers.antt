use Rattle.std.proofs.Common.{refl, pos}
use Rattle.std.proofs.lemmas.List.{drop_more}
use Rattle.dn_canon.specs.Prints.{query_row}
use Rattle.dn_sink.proofs.PutLaws.{stopped}
use Rattle.dn_canon.proofs.BlockLaws.{put_block}
use Rattle.dn_canon.proofs.PutLaws.{row_more, row_stop, rows_done}
use Rattle.dn_canon.proofs.writer.write_queries.Goals as goal

pub returns-in_err-query_line-clause-text : goal.returns-in_err-query_line-clause-text
returns-in_err-query_line-clause-text g c =
    stopped _ c.from_residual.ensures.0
    (row_stop query_row c.loop-query.block (drop_more _ c.loop-query.query-index (pos 0, pos 0) c.loop-query-test.true)
    refl c.loop-query.invariant c.in_err-query_line.ensures)

pub loop-query-preserved : goal.loop-query-preserved
loop-query-preserved g c =
    row_more query_row c.loop-query.block (drop_more _ c.loop-query.query-index (pos 0, pos 0) c.loop-query-test.true)
    refl c.loop-query.invariant c.in_ok-query_line.ensures

pub returns-clause-text : goal.returns-clause-text
returns-clause-text g c =
    put_block _ _ c.bytes.ensures
    (rows_done query_row c.loop-query.block _ c.loop-query.query-index c.loop-query-test.false c.loop-query.invariant)
    c.put_and_flush.ensures.puts
