use Rattle.std.proofs.Common.{subst}
use Rattle.dn_nodes.specs.State.Nodes.{Nodes, Ascends}
use Rattle.dn_nodes.proofs.NodeLaws.{ascends_valued}
use Rattle.dn_nodes.proofs.node_map.NodeMap.iter.Goals as goal

pub returns-clause-ascending : goal.returns-clause-ascending
returns-clause-ascending g c =
    let s = c.self.inside in
    subst (λ (n : Nodes g.row.V.Denot). Ascends n.entries) c.self.view_is
    (ascends_valued s.links s.values.items c.self.invariant.0)
