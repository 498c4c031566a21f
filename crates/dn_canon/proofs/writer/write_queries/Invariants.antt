use Rattle.std.proofs.Common.{map, drop, ◌++◌}
use Rattle.dn_instance.specs.Instances.{Queries}
use Rattle.dn_canon.specs.Prints.{query_row, print}
use Rattle.dn_sink.specs.Rows.{text_of}
use Rattle.dn_sink.specs.Puts.{HasPut}
use Rattle.dn_canon.proofs.writer.write_queries.Given as goal

abbrev pub invariant-loop-query : goal.invariant-loop-query
invariant-loop-query g l =
    HasPut g.K.Sink.sink l.fn.sink l.sink (l.block ++ text_of (map query_row (drop l.query-index l.queries)))
    (print (Queries l.queries))
