use Rattle.dn_answers.proofs.FlowLaws.{same_values, same_greatest}
use Rattle.dn_answers.proofs.max_flows.same_values.Goals as goal

pub returns-clause-values : goal.returns-clause-values
returns-clause-values c = same_values

pub returns-clause-greatest : goal.returns-clause-greatest
returns-clause-greatest c = same_greatest
