use Rattle.dn_answers.proofs.ExampleLaws.{lengths_differ, capacities_differ, costs_differ}
use Rattle.dn_answers.proofs.examples.different_answers.Goals as goal

pub returns-clause-lengths : goal.returns-clause-lengths
returns-clause-lengths c = lengths_differ

pub returns-clause-capacities : goal.returns-clause-capacities
returns-clause-capacities c = capacities_differ

pub returns-clause-costs : goal.returns-clause-costs
returns-clause-costs c = costs_differ

pub returns-clause-kinds : goal.returns-clause-kinds
returns-clause-kinds c = λ never. never
