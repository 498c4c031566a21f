use Rattle.std.proofs.Common.{◌≡◌, ◌++◌, length}
use Rattle.dn_nodes.specs.State.Links.{direct, AreFar}
use Rattle.dn_nodes.specs.State.Nodes.{Ascends}
use Rattle.dn_nodes.proofs.LinkLaws.{Clear}
use Rattle.dn_nodes.proofs.links.reach.Given as goal

abbrev pub invariant-loop-node : goal.invariant-loop-node
invariant-loop-node l = record {
  same : direct 0 l.links.items ++ l.above.entries ≡ direct 0 l.fn.links.items ++ l.fn.above.entries;
  far : AreFar (length l.fn.links.items) l.above.entries;
  clear : Clear l.links.items l.above.entries;
  ascends : Ascends l.above.entries;
  long : length l.links.items ≡ l.len;
}

abbrev pub decreases-loop-node : goal.decreases-loop-node
decreases-loop-node l = length l.above.entries
