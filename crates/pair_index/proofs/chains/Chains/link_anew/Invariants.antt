use Rattle.std.proofs.Common.{◌≡◌, take, vec_capacity}
use Rattle.std.specs.Map.{keys_of}
use Rattle.pair_index.specs.State.Chained.{IsChained}
use Rattle.pair_index.proofs.chains.Chains.link_anew.Given as goal

-- the entries so far are linked, and the capacity is the same
abbrev pub invariant-loop-entry : goal.invariant-loop-entry
invariant-loop-entry g l = record {
  linked : IsChained l.self (keys_of (take l.entry-index l.entries));
  capacity : vec_capacity l.self.next ≡ vec_capacity l.fn.self.next;
}
