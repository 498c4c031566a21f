use Rattle.std.proofs.Common.{map, drop, ◌++◌}
use Rattle.dn_instance.specs.Instances.{Sources}
use Rattle.dn_canon.specs.Prints.{source_row, print}
use Rattle.dn_sink.specs.Rows.{text_of}
use Rattle.dn_sink.specs.Puts.{HasPut}
use Rattle.dn_canon.proofs.writer.write_sources.Given as goal

abbrev pub invariant-loop-id : goal.invariant-loop-id
invariant-loop-id g l =
    HasPut g.K.Sink.sink l.fn.sink l.sink (l.block ++ text_of (map source_row (drop l.id-index l.ids)))
    (print (Sources l.ids))
