use Rattle.std.proofs.Common.{◌↔◌, drop}
use Rattle.dn_flow.specs.State.Givings.{AreNone}
use Rattle.dn_flow.proofs.flow.are_none.Given as goal

-- none of those that are left has units exactly if none of all has
abbrev pub invariant-loop-share : goal.invariant-loop-share
invariant-loop-share l = AreNone (drop l.share-index l.shares) ↔ AreNone l.shares
