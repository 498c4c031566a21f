use Rattle.std.proofs.Common.{map, ◌++◌}
use Rattle.dn_canon.specs.Prints.{supply_row}
use Rattle.dn_sink.specs.Rows.{text_of}
use Rattle.dn_sink.specs.Puts.{HasPut}
use Rattle.dn_canon.proofs.writer.put_supplies.Given as goal

abbrev pub invariant-loop-id : goal.invariant-loop-id
invariant-loop-id g l =
    HasPut g.K.Sink.sink l.fn.sink l.sink (l.block ++ text_of (map supply_row l.id-iterator))
    (l.fn.block ++ text_of (map supply_row l.supplies.entries))
