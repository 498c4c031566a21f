use Rattle.std.proofs.Common.{[], refl}
use Rattle.dn_canon.specs.State.ListedArcs.{listed_graph}
use Rattle.dn_sink.proofs.PutLaws.{stopped}
use Rattle.dn_canon.proofs.BlockLaws.{pass_more, pass_stop, all_done, put_block}
use Rattle.dn_canon.proofs.PutLaws.{graph_start}
use Rattle.dn_canon.proofs.writer.put_graph.Goals as goal

pub returns-in_err-put_nodes-clause-text : goal.returns-in_err-put_nodes-clause-text
returns-in_err-put_nodes-clause-text g c =
    let graph = listed_graph (g.B.Bundle.bundle.listed c.args.form) c.args.nodes.now c.args.table.now in
    stopped _ c.from_residual.ensures.0
    (pass_stop c.graph_line.new.block _ _
    (graph_start g.B.Bundle.bundle.kind c.args.kind graph _ c.new-block.ensures c.graph_line.ensures c.requires.count)
    c.in_err-put_nodes.ensures)

pub returns-in_err-put_table-clause-text : goal.returns-in_err-put_table-clause-text
returns-in_err-put_table-clause-text g c =
    let graph = listed_graph (g.B.Bundle.bundle.listed c.args.form) c.args.nodes.now c.args.table.now in
    stopped _ c.from_residual-in_err-put_table.ensures.0
    (pass_stop c.put_nodes.new.block _ []
    (pass_more c.graph_line.new.block _ _
    (graph_start g.B.Bundle.bundle.kind c.args.kind graph _ c.new-block.ensures c.graph_line.ensures c.requires.count)
    c.in_ok-put_nodes.ensures) c.in_err-put_table.ensures)

pub returns-clause-text : goal.returns-clause-text
returns-clause-text g c =
    let graph = listed_graph (g.B.Bundle.bundle.listed c.args.form) c.args.nodes.now c.args.table.now in
    put_block _ _ c.bytes.ensures
    (all_done c.put_table.new.block [] refl
    (pass_more c.put_nodes.new.block _ []
    (pass_more c.graph_line.new.block _ _
    (graph_start g.B.Bundle.bundle.kind c.args.kind graph _ c.new-block.ensures c.graph_line.ensures c.requires.count)
    c.in_ok-put_nodes.ensures) c.in_ok-put_table.ensures))
    c.put_and_flush.ensures.puts
