use Rattle.std.proofs.Common.{◌≡◌, length}
use Rattle.dn_nodes.specs.State.Links.{valued}
use Rattle.dn_nodes.proofs.node_map.NodesIterator.next.Given as goal

abbrev pub invariant-loop-node : goal.invariant-loop-node
invariant-loop-node g l =
    valued l.self-inside.links l.self-inside.values.now
    ≡ valued l.initial.self-inside.links l.initial.self-inside.values.now

abbrev pub decreases-loop-node : goal.decreases-loop-node
decreases-loop-node g l = length l.self-inside.links
