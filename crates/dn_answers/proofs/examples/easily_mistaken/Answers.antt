use Rattle.dn_answers.proofs.ExampleLaws.{there_distance, returning_value, forced_cost_is}
use Rattle.dn_answers.proofs.examples.easily_mistaken.Goals as goal

pub returns-clause-lengths : goal.returns-clause-lengths
returns-clause-lengths c = there_distance

pub returns-clause-capacities : goal.returns-clause-capacities
returns-clause-capacities c = returning_value

pub returns-clause-costs : goal.returns-clause-costs
returns-clause-costs c = forced_cost_is
