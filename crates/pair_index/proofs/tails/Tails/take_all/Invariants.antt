use Rattle.std.proofs.Common.{take}
use Rattle.std.specs.Map.{keys_of}
use Rattle.pair_index.specs.State.Tailed.{IsTailed}
use Rattle.pair_index.proofs.tails.Tails.take_all.Given as goal

-- the entries so far are linked
abbrev pub invariant-loop-i : goal.invariant-loop-i
invariant-loop-i g l = IsTailed l.self (keys_of (take l.i l.entries))
