use Rattle.dn_answers.proofs.ParallelLaws.{lengths_apart, capacities_apart, costs_apart}
use Rattle.dn_answers.proofs.parallel.told_apart.Goals as goal

pub returns-clause-lengths : goal.returns-clause-lengths
returns-clause-lengths c = λ n p xs ys node differ. lengths_apart n p differ xs ys node

pub returns-clause-capacities : goal.returns-clause-capacities
returns-clause-capacities c = λ n p xs ys differ. capacities_apart n p differ xs ys

pub returns-clause-costs : goal.returns-clause-costs
returns-clause-costs c = λ n p xs ys differ. costs_apart n p differ xs ys
