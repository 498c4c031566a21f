use Rattle.dn_bundle.proofs.Cost128Laws.{mean_range}
use Rattle.dn_bundle.proofs.GapLaws.{next_amount_fits, next_gap}
use Rattle.dn_bundle.proofs.difference.further.Goals as goal

pub overflow_add-result : goal.overflow_add-result
overflow_add-result c = next_amount_fits c.args.amount.now c.requires.some c.requires.most

pub with_unit-requires : goal.with_unit-requires
with_unit-requires c = let range =
    mean_range c.args.cost.now c.args.amount.now c.requires.some c.requires.most c.requires.mean in
    record { low = range.0; high = range.1 }

pub with_unit-requires-2 : goal.with_unit-requires-2
with_unit-requires-2 c = let range =
    mean_range c.args.cost.now c.args.amount.now c.requires.some c.requires.most c.requires.mean in
    record { low = range.0; high = range.1 }

pub returns : goal.returns
returns c = next_gap c.args.amount.now c.requires.some c.requires.most c.args.cost.now c.args.left c.args.right
    c.with_unit.result c.with_unit-2.result c.with_unit.ensures c.with_unit-2.ensures
