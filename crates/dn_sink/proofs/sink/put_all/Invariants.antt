use Rattle.std.proofs.Common.{length, ◌-◌, ◌≤◌, drop}
use Rattle.dn_sink.specs.Puts.{HasPut}
use Rattle.dn_sink.proofs.sink.put_all.Given as goal

abbrev pub invariant-loop-at : goal.invariant-loop-at
invariant-loop-at g l = record {
  within : l.at ≤ length l.piece;
  has : HasPut g.K.Sink.sink l.fn.sink l.sink (drop l.at l.piece) l.piece;
}

abbrev pub decreases-loop-at : goal.decreases-loop-at
decreases-loop-at g l = length l.piece - l.at
