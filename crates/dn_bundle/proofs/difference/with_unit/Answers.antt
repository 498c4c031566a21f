use Rattle.std.proofs.Common.{rules, Some, ap, sym, ◌∙◌}
use Rattle.dn_bundle.specs.State.Gaps.{unit_cost}
use Rattle.dn_bundle.proofs.Cost128Laws.{widens, unit_fits, unit_is}
use Rattle.dn_bundle.proofs.difference.with_unit.Goals as goal

pub overflow_cast-result : goal.overflow_cast-result
overflow_cast-result c = widens c.in-Some.step.0

pub overflow_add-result : goal.overflow_add-result
overflow_add-result c = unit_fits c.args.cost.now c.in-Some.step.0 c.requires.low c.requires.high (search rules)

pub returns-in-Some : goal.returns-in-Some
returns-in-Some c =
    ap Some (unit_is c.args.cost.now c.in-Some.step.0 c.requires.low c.requires.high (search rules))
    ∙ sym (ap (unit_cost c.args.cost.now) c.in-Some.is)

pub returns-in-None : goal.returns-in-None
returns-in-None c = sym (ap (unit_cost c.args.cost.now) c.in-None.is)
