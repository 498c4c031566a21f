use Rattle.std.proofs.Common.{◌∙◌, sym, ap}
use Rattle.dn_nodes.specs.State.Nodes.{Nodes, get}
use Rattle.dn_nodes.specs.State.Links.{linked}
use Rattle.dn_nodes.proofs.NodeLaws.{looked}
use Rattle.dn_nodes.proofs.node_map.NodeMap.get.Goals as goal

pub returns : goal.returns
returns g c =
    let s = c.self.inside in
    rw c.deref.ensures.value at c.value_of.ensures
    ∙ ap (linked s.values.items) c.find.ensures
    ∙ sym (looked c.args.node.now s.links s.values.items c.self.invariant.0)
    ∙ ap (λ (n : Nodes g.row.V.Denot). get n c.args.node.now) c.self.view_is
