use Rattle.std.proofs.Common.{◌≡◌, drop, flat_map}
use Rattle.dn_instance.specs.Companions.{both_nodes, within}
use Rattle.dn_instance.proofs.companion.check_pairs.Given as goal

-- the remaining nodes give the same result as all nodes
abbrev pub invariant-loop-pair : goal.invariant-loop-pair
invariant-loop-pair l =
    within l.nodes (flat_map both_nodes (drop l.pair-index l.pairs)) ≡ within l.nodes (flat_map both_nodes l.pairs)
