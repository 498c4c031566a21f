use Rattle.std.proofs.Common.{rules}
use Rattle.dn_bundle.proofs.Cost128Laws.{product_fit, product_is}
use Rattle.dn_bundle.proofs.cost128.cost_of.Goals as goal

pub overflow_mul-result : goal.overflow_mul-result
overflow_mul-result c = product_fit c.args.units.now c.args.cost.now (search rules) (search rules)

pub returns : goal.returns
returns c = product_is c.args.units.now c.args.cost.now (search rules) (search rules)
