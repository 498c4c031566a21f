use Rattle.std.proofs.Common.{map, ◌++◌}
use Rattle.dn_canon.specs.Prints.{arc_row}
use Rattle.dn_sink.specs.Rows.{text_of}
use Rattle.dn_sink.specs.Puts.{HasPut}
use Rattle.dn_canon.specs.State.ListedArcs.{listed_arcs}
use Rattle.dn_canon.proofs.writer.put_table.Given as goal

abbrev pub invariant-loop-pair : goal.invariant-loop-pair
invariant-loop-pair g l =
    let lists = g.B.Bundle.bundle.listed l.form in
    HasPut g.K.Sink.sink l.fn.sink l.sink
    (l.block ++ text_of (map (arc_row g.B.Bundle.bundle.kind) (listed_arcs lists l.pair-iterator)))
    (l.fn.block ++ text_of (map (arc_row g.B.Bundle.bundle.kind) (listed_arcs lists l.table)))
