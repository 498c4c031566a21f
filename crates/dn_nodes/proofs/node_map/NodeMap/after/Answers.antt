use Rattle.std.proofs.Common.{ap, sym, subst, ◌∙◌}
use Rattle.dn_nodes.specs.State.Links.{valued}
use Rattle.dn_nodes.specs.State.Nodes.{Nodes, Ascends, after}
use Rattle.dn_nodes.proofs.AfterLaws.{valued_after}
use Rattle.dn_nodes.proofs.NodeLaws.{ascends_valued}
use Rattle.dn_nodes.proofs.node_map.NodeMap.after.Goals as goal

pub returns-clause-value : goal.returns-clause-value
returns-clause-value g c =
    let s = c.self.inside in
    ap (λ l. valued l c.deref.result.now) c.after.ensures
    ∙ ap (valued (after c.args.node.now s.links)) c.deref.ensures.value
    ∙ sym (valued_after c.args.node.now s.values.items s.links)
    ∙ ap (λ (n : Nodes g.row.V.Denot). after c.args.node.now n.entries) c.self.view_is

pub returns-clause-ascending : goal.returns-clause-ascending
returns-clause-ascending g c =
    let s = c.self.inside in
    subst (λ (n : Nodes g.row.V.Denot). Ascends n.entries) c.self.view_is
    (ascends_valued s.links s.values.items c.self.invariant.0)
