use Rattle.std.proofs.Common.{take}
use Rattle.std.specs.Map.{keys_of}
use Rattle.pair_index.specs.State.Shown.{HasPositions}
use Rattle.pair_index.proofs.index.positions_with.Given as goal

-- the map has the positions of the entries so far
abbrev pub invariant-loop-i : goal.invariant-loop-i
invariant-loop-i g l = HasPositions l.positions (keys_of (take l.i l.entries))
