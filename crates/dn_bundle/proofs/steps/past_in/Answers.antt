use Rattle.std.proofs.Common.{rules, ◌∙◌}
use Rattle.dn_bundle.proofs.StepLaws.{first_past, none_past}
use Rattle.dn_bundle.proofs.steps.past_in.Goals as goal

pub returns : goal.returns
returns c =
    first_past c.args.map.now.entries c.range-past.result c.args.cost.now (search rules)
    (c.range-past.ensures.between tt) c.next.new.self (c.in_ok-each.each.now, c.in_ok-each.room.now) (search rules)
    (search rules) c.in_ok-each.ensures.steps

pub returns-in_err-each : goal.returns-in_err-each
returns-in_err-each c =
    c.from_residual.ensures ∙ none_past c.args.map.now.entries c.range-past.result c.args.cost.now (search rules)
    (c.range-past.ensures.between tt) c.in_err-each.ensures.steps.0
