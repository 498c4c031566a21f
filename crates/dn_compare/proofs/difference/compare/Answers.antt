use Rattle.std.proofs.Common.{rules, ◌≢◌, sym, ap, ◌∙◌, of_z, w64}
use Rattle.std.specs.Int.RustNames.{FitsSigned}
use Rattle.std.proofs.lemmas.Int.{to_z-of_z}
use Rattle.dn_compare.proofs.HeldVerdicts.{kinds_on, nodes_on, held_on}
use Rattle.dn_compare.proofs.difference.compare.Goals as goal

pub returns-then-ne : goal.returns-then-ne
returns-then-ne c I J x y p q =
    kinds_on c.args.left.now c.args.right.now I J p q c.kind-then-ne.ensures c.kind-then-ne-2.ensures
    (search rules)

pub returns-then-nodes : goal.returns-then-nodes
returns-then-nodes c I J x y p q =
    let left : FitsSigned w64 c.nodes-then-nodes.result = search rules in
    let right : FitsSigned w64 c.nodes-then-nodes-2.result = search rules in
    let differ : c.nodes-then-nodes.result ≢ c.nodes-then-nodes-2.result = λ e.
    c.if-nodes.true
    (ap (of_z w64)
    (c.nodes.ensures ∙ sym c.nodes-then-nodes.ensures ∙ e ∙ c.nodes-then-nodes-2.ensures
    ∙ sym c.nodes-2.ensures)) in
    simp to_z-of_z
    (nodes_on c.args.left.now c.args.right.now I J p q (search rules) c.nodes-then-nodes.ensures
    c.nodes-then-nodes-2.ensures differ)

pub returns : goal.returns
returns c I J x y p q =
    held_on c.args.left.now c.args.right.now I J p q c.view_verdict.ensures c.view.ensures
    c.view-2.ensures (search rules) x y
