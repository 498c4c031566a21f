use Rattle.dn_answers.proofs.FlowLaws.{flow_there}
use Rattle.dn_answers.proofs.max_flows.same_flows.Goals as goal

pub returns : goal.returns
returns c = flow_there
