use Rattle.std.proofs.Common.{◌≡◌}
use Rattle.std.specs.Map.{keys_of}
use Rattle.dn_instance.specs.Companions.{within}
use Rattle.dn_instance.proofs.companion.check_points.Given as goal

-- the remaining nodes give the same result as all nodes
abbrev pub invariant-loop-id : goal.invariant-loop-id
invariant-loop-id l = within l.nodes (keys_of l.id-iterator) ≡ within l.nodes (keys_of l.points.entries)
