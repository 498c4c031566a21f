use Rattle.std.proofs.Common.{◌≡◌, ◌+◌, length}
use Rattle.dn_nodes.specs.State.Links.{lead}
use Rattle.dn_nodes.proofs.walk.zeros.Given as goal

abbrev pub invariant-loop-left : goal.invariant-loop-left
invariant-loop-left l = record {
  zeros : l.skip + lead l.left ≡ lead l.fn.links;
  whole : l.skip + length l.left ≡ length l.fn.links;
}

abbrev pub decreases-loop-left : goal.decreases-loop-left
decreases-loop-left l = length l.left
