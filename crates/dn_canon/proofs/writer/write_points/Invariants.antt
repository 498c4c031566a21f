use Rattle.std.proofs.Common.{map, ◌++◌}
use Rattle.dn_instance.specs.Instances.{Coordinates}
use Rattle.dn_canon.specs.Prints.{point_row, print}
use Rattle.dn_sink.specs.Rows.{text_of}
use Rattle.dn_sink.specs.Puts.{HasPut}
use Rattle.dn_canon.proofs.writer.write_points.Given as goal

abbrev pub invariant-loop-id : goal.invariant-loop-id
invariant-loop-id g l =
    HasPut g.K.Sink.sink l.fn.sink l.sink (l.block ++ text_of (map point_row l.id-iterator))
    (print (Coordinates l.points.entries))
