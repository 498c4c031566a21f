use Rattle.std.proofs.Common.{drop, map}
use Rattle.std.specs.List.{concat}
use Rattle.dn_sink.specs.Puts.{HasPut}
use Rattle.dn_report.proofs.fault_line.put_each.Given as goal

abbrev pub invariant-loop-piece : goal.invariant-loop-piece
invariant-loop-piece g l =
    HasPut g.K.Sink.sink l.fn.sink l.sink (concat (map (λ p. p.now) (drop l.piece-index l.pieces)))
    (concat (map (λ p. p.now) l.pieces))
