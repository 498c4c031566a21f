use Rattle.std.proofs.Common.{◌∙◌, sym, ap, length, drop, rules, w64, FitsSigned, arith}
use Rattle.std.proofs.lemmas.Int.{to_z-of_z}
use Rattle.std.proofs.lemmas.Grind.{common_steps}
use Rattle.dn_nodes.proofs.WalkLaws.{walk_link, walk_above}
use Rattle.dn_nodes.proofs.walk.LinksIterIterator.next.Goals as goal

pub returns-in-Some-clause-steps : goal.returns-in-Some-clause-steps
returns-in-Some-clause-steps c =
    let s = c.self.inside in
    let f : FitsSigned w64 c.past-node.result = search rules in
    let g : FitsSigned w64 c.past-self-inside.result = search rules in
    let u = simp to_z-of_z at c.past-self-inside.ensures in
    simp to_z-of_z
    (walk_link s.above c.args.self.now s.links.now s.node c.self.view_is c.in-Some.links.now c.zeros-skip.result
    c.in-Some.link.now c.past-node.result c.past-self-inside.result c.zeros-skip.ensures.zeros
    (ap (λ z. drop z s.links.now) (sym c.zeros-skip.ensures.zeros) ∙ sym c.split_at.ensures.back
    ∙ c.in-Some.ensures.cases.0)
    c.past-node.ensures u)

pub returns-in-Some-clause-goes : goal.returns-in-Some-clause-goes
returns-in-Some-clause-goes c =
    let e = ap length (returns-in-Some-clause-steps c) in
    grind (arith, common_steps, e)

pub returns-in_err-node-clause-steps : goal.returns-in_err-node-clause-steps
returns-in_err-node-clause-steps c =
    let s = c.self.inside in
    let e =
    walk_above s.above c.args.self.now s.links.now s.node c.self.view_is
    (ap length (ap (λ z. drop z s.links.now) (sym c.zeros-skip.ensures.zeros) ∙ sym c.split_at.ensures.back)
    ∙ c.in_default.ensures.cases)
    ∙ c.in_err-node.ensures.steps.0 in
    rw (c.from_residual.ensures, c.in_err-node.ensures.steps.1) (e, search rules)

pub returns-clause-steps : goal.returns-clause-steps
returns-clause-steps c =
    let s = c.self.inside in
    let f : FitsSigned w64 c.in_ok-node.node.now = search rules in
    simp to_z-of_z
    (walk_above s.above c.args.self.now s.links.now s.node c.self.view_is
    (ap length (ap (λ z. drop z s.links.now) (sym c.zeros-skip.ensures.zeros) ∙ sym c.split_at.ensures.back)
    ∙ c.in_default.ensures.cases)
    ∙ c.in_ok-node.ensures.steps)
