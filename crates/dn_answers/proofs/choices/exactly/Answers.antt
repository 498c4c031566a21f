use Rattle.dn_answers.proofs.ChoiceLaws.{lengths_exactly, capacities_exactly, costs_exactly}
use Rattle.dn_answers.proofs.choices.exactly.Goals as goal

pub returns-clause-lengths : goal.returns-clause-lengths
returns-clause-lengths c = lengths_exactly

pub returns-clause-capacities : goal.returns-clause-capacities
returns-clause-capacities c = capacities_exactly

pub returns-clause-costs : goal.returns-clause-costs
returns-clause-costs c = costs_exactly
