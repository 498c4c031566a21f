use Rattle.dn_answers.proofs.FlowLaws.{same_bounds, same_least}
use Rattle.dn_answers.proofs.min_cost_flows.same_costs.Goals as goal

pub returns-clause-bounds : goal.returns-clause-bounds
returns-clause-bounds c = same_bounds

pub returns-clause-least : goal.returns-clause-least
returns-clause-least c = same_least
