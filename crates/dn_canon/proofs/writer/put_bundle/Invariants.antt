use Rattle.std.proofs.Common.{◌≡◌, map, drop, slice_get, ◌++◌}
use Rattle.dn_canon.specs.Prints.{arc_row}
use Rattle.dn_sink.specs.Rows.{text_of}
use Rattle.dn_sink.specs.Puts.{HasPut}
use Rattle.dn_canon.specs.State.ListedArcs.{placed}
use Rattle.dn_canon.proofs.writer.put_bundle.Given as goal

abbrev pub invariant-loop : goal.invariant-loop
invariant-loop g l =
    let listed = g.B.Bundle.bundle.listed l.form l.bundle in
    record {
      next : l.next ≡ slice_get listed l.counter;
      has : HasPut g.K.Sink.sink l.fn.sink l.sink
          (l.block ++ text_of (map (arc_row g.B.Bundle.bundle.kind) (placed l.pair (drop l.counter listed))))
          (l.fn.block ++ text_of (map (arc_row g.B.Bundle.bundle.kind) (placed l.pair listed)));
    }
