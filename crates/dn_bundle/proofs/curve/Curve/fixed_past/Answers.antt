use Rattle.std.proofs.Common.{rules, Some, ap, ◌∙◌}
use Rattle.dn_bundle.proofs.FormLaws.{arc_past, past_first, past_one, past_second, past_both}
use Rattle.dn_bundle.proofs.StepLaws.{next_fits}
use Rattle.dn_bundle.proofs.curve.Curve.fixed_past.Goals as goal

pub returns-in-Zero : goal.returns-in-Zero
returns-in-Zero c = ap (arc_past c.args.past.now) c.in-Zero.ensures.value

pub returns-then-past-cost : goal.returns-then-past-cost
returns-then-past-cost c =
    ap Some c.fixed_at.ensures ∙ past_first c.args.past.now c.in-One.cost (search rules)
    (search rules) c.in-One.units _ _ c.in-One.ensures.value c.if-past-cost.true (search rules)

pub returns-else-past-cost : goal.returns-else-past-cost
returns-else-past-cost c =
    past_one c.args.past.now c.in-One.cost (search rules)
    (search rules) c.in-One.units _ c.in-One.ensures.value c.if-past-cost.false

pub returns-then-past-cost-2 : goal.returns-then-past-cost-2
returns-then-past-cost-2 c =
    ap Some c.fixed_at-then-past-cost-2.ensures
    ∙ past_first c.args.past.now c.in-Two.cost (search rules)
    (search rules) c.in-Two.units _ _ c.in-Two.ensures.value c.if-past-cost-2.true (search rules)

pub overflow_add-cost : goal.overflow_add-cost
overflow_add-cost c = next_fits c.in-Two.cost (search rules) c.in-Two.ensures.next

pub returns-then-past-cost-3 : goal.returns-then-past-cost-3
returns-then-past-cost-3 c = ap Some c.fixed_at-then-past-cost-3.ensures ∙ past_second c.args.past.now c.in-Two.cost
    (search rules) (search rules) c.in-Two.units c.in-Two.above _ c.in-Two.ensures.value c.if-past-cost-2.false
    c.if-past-cost-3.true c.in-Two.ensures.next (search rules)

pub returns-else-past-cost-3 : goal.returns-else-past-cost-3
returns-else-past-cost-3 c =
    past_both c.args.past.now c.in-Two.cost (search rules)
    (search rules) c.in-Two.units c.in-Two.above _ c.in-Two.ensures.value c.if-past-cost-2.false c.if-past-cost-3.false
