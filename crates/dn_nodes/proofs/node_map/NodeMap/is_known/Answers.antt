use Rattle.std.proofs.Common.{◌∙◌, ap, is_some}
use Rattle.dn_nodes.specs.State.Nodes.{Nodes, is_known}
use Rattle.dn_nodes.proofs.NodeLaws.{known_is}
use Rattle.dn_nodes.proofs.node_map.NodeMap.is_known.Goals as goal

pub returns : goal.returns
returns g c =
    c.is_some.ensures ∙ ap is_some c.find.ensures ∙ known_is c.args.node.now c.self.inside.links
    ∙ ap (λ (n : Nodes g.row.V.Denot). is_known n c.args.node.now) c.self.view_is
