use Rattle.std.proofs.Common.{take}
use Rattle.std.specs.Map.{keys_of}
use Rattle.pair_index.specs.State.Chained.{IsChained}
use Rattle.pair_index.proofs.chains.Chains.link_all.Given as goal

-- the entries so far are linked
abbrev pub invariant-loop-entry : goal.invariant-loop-entry
invariant-loop-entry g l = IsChained l.self (keys_of (take l.entry-index l.entries))
