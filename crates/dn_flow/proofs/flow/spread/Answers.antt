use Rattle.std.proofs.Common.{OnOk, rules, subst, sym}
use Rattle.dn_flow.specs.State.Spreads.{CanSpreadOn, Spreads}
use Rattle.dn_flow.proofs.flow.spread.Goals as goal

pub returns-in-Min-clause-ok : goal.returns-in-Min-clause-ok
returns-in-Min-clause-ok c =
    subst (λ k. OnOk c.spread_over.result
    (Spreads c.args.form k c.args.flow.now c.args.lines.now c.spread_over.new.units)) c.in-Min.ensures
    c.spread_over.ensures.ok

pub returns-in-Max-clause-ok : goal.returns-in-Max-clause-ok
returns-in-Max-clause-ok c =
    subst (λ k. OnOk c.spread_over-in-Max.result
    (Spreads c.args.form k c.args.flow.now c.args.lines.now c.spread_over-in-Max.new.units)) c.in-Max.ensures
    c.spread_over-in-Max.ensures.ok

pub returns-in-Sp-clause-ok : goal.returns-in-Sp-clause-ok
returns-in-Sp-clause-ok c =
    subst (λ k. OnOk c.spread_over-in-Sp.result
    (Spreads c.args.form k c.args.flow.now c.args.lines.now c.spread_over-in-Sp.new.units)) c.in-Sp.ensures
    c.spread_over-in-Sp.ensures.ok

pub returns-in-Min-clause-no_flow : goal.returns-in-Min-clause-no_flow
returns-in-Min-clause-no_flow c failed are can =
    c.spread_over.ensures.no_flow failed (search rules)
    (subst (λ k. CanSpreadOn c.args.form k c.args.flow.now c.args.lines.now) (sym c.in-Min.ensures) can)

pub returns-in-Max-clause-no_flow : goal.returns-in-Max-clause-no_flow
returns-in-Max-clause-no_flow c failed are can =
    c.spread_over-in-Max.ensures.no_flow failed (search rules)
    (subst (λ k. CanSpreadOn c.args.form k c.args.flow.now c.args.lines.now) (sym c.in-Max.ensures) can)

pub returns-in-Sp-clause-no_flow : goal.returns-in-Sp-clause-no_flow
returns-in-Sp-clause-no_flow c failed are can =
    c.spread_over-in-Sp.ensures.no_flow failed (search rules)
    (subst (λ k. CanSpreadOn c.args.form k c.args.flow.now c.args.lines.now) (sym c.in-Sp.ensures) can)
