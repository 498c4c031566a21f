use Rattle.dn_answers.proofs.ExampleLaws.{three_distance, three_value, three_cost}
use Rattle.dn_answers.proofs.examples.three_nodes.Goals as goal

pub returns-clause-lengths : goal.returns-clause-lengths
returns-clause-lengths c = three_distance

pub returns-clause-capacities : goal.returns-clause-capacities
returns-clause-capacities c = three_value

pub returns-clause-costs : goal.returns-clause-costs
returns-clause-costs c = three_cost
