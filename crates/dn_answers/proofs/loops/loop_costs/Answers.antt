use Rattle.dn_answers.proofs.LoopCostLaws.{loop_cost_bounds, loop_cost_least}
use Rattle.dn_answers.proofs.loops.loop_costs.Goals as goal

pub returns-clause-bounds : goal.returns-clause-bounds
returns-clause-bounds c = loop_cost_bounds

pub returns-clause-least : goal.returns-clause-least
returns-clause-least c = loop_cost_least
