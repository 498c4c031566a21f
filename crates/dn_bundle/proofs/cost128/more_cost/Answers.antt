use Rattle.std.proofs.Common.{rules}
use Rattle.dn_bundle.proofs.Cost128Laws.{operands_fit, sum_is}
use Rattle.dn_bundle.proofs.cost128.more_cost.Goals as goal

pub overflow_add-result : goal.overflow_add-result
overflow_add-result c =
    operands_fit c.args.all.now c.args.units.now c.args.cost.now (search rules) (search rules) (search rules) c.requires

pub returns : goal.returns
returns c =
    sum_is c.args.all.now c.args.units.now c.args.cost.now (search rules) (search rules) (search rules) c.requires
