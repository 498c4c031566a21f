use Rattle.dn_answers.proofs.FlowLaws.{feasible_there}
use Rattle.dn_answers.proofs.min_cost_flows.same_flows.Goals as goal

pub returns : goal.returns
returns c = feasible_there
