use Rattle.std.proofs.Common.{rules}
use Rattle.dn_bundle.proofs.GapLaws.{past_fits, past_some, past_most, past_cost_fits, past_mean, past_gap}
use Rattle.dn_bundle.proofs.difference.past_step.Goals as goal

pub overflow_add-amount : goal.overflow_add-amount
overflow_add-amount c =
    past_fits c.args.amount.now c.args.cost.now c.args.step.now c.requires.some c.requires.room c.requires.most

pub more_cost-requires : goal.more_cost-requires
more_cost-requires c =
    past_cost_fits c.args.amount.now c.args.cost.now c.args.step.now c.requires.some c.requires.room c.requires.most
    (search rules) c.requires.mean

pub further-requires-clause-some : goal.further-requires-clause-some
further-requires-clause-some c =
    past_some c.args.amount.now c.args.cost.now c.args.step.now c.requires.some c.requires.room c.requires.most

pub further-requires-clause-most : goal.further-requires-clause-most
further-requires-clause-most c =
    past_most c.args.amount.now c.args.cost.now c.args.step.now c.requires.some c.requires.room c.requires.most

pub further-requires-clause-mean : goal.further-requires-clause-mean
further-requires-clause-mean c =
    past_mean c.args.amount.now c.args.cost.now c.args.step.now c.requires.some c.requires.room c.requires.most
    (search rules) c.requires.mean c.more_cost.result c.more_cost.ensures

pub returns : goal.returns
returns c = past_gap c.args.amount.now c.args.cost.now c.args.step.now c.requires.some c.requires.room c.requires.most
    (search rules) c.requires.mean c.more_cost.result c.more_cost.ensures c.further.result c.args.left c.args.right
    c.further.ensures
