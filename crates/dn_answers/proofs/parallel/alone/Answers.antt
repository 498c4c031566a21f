use Rattle.dn_answers.proofs.ParallelLaws.{length_alone, capacity_alone, cost_alone}
use Rattle.dn_answers.proofs.parallel.alone.Goals as goal

pub returns-clause-lengths : goal.returns-clause-lengths
returns-clause-lengths c = λ n p xs node differ. length_alone n p differ xs node

pub returns-clause-capacities : goal.returns-clause-capacities
returns-clause-capacities c = λ n p xs differ. capacity_alone n p differ xs

pub returns-clause-costs : goal.returns-clause-costs
returns-clause-costs c = λ n p xs differ. cost_alone n p differ xs
