use Rattle.std.proofs.Common.{◌≡◌, drop}
use Rattle.dn_instance.specs.Companions.{within}
use Rattle.dn_instance.proofs.companion.check_ids.Given as goal

-- the remaining nodes give the same result as all nodes
abbrev pub invariant-loop-id : goal.invariant-loop-id
invariant-loop-id l = within l.nodes (drop l.id-index l.ids) ≡ within l.nodes l.ids
