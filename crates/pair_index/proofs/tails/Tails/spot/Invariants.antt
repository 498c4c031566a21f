use Rattle.std.specs.Map.{keys_of}
use Rattle.pair_index.specs.State.Tailed.{Sought}
use Rattle.pair_index.proofs.TailLaws.{left_of}
use Rattle.pair_index.proofs.tails.Tails.spot.Given as goal

-- the pair's position is not before the link
abbrev pub invariant-loop-after : goal.invariant-loop-after
invariant-loop-after g l = Sought (keys_of l.entries) l.pair l.before l.after

-- the measure decreases along a chain
abbrev pub decreases-loop-after : goal.decreases-loop-after
decreases-loop-after g l = left_of (keys_of l.entries) l.after
