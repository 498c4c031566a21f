use Rattle.dn_answers.proofs.ExampleLaws.{unreached, endless, too_many, uneven}
use Rattle.dn_answers.proofs.examples.no_answers.Goals as goal

pub returns-clause-unreached : goal.returns-clause-unreached
returns-clause-unreached c = unreached

pub returns-clause-cycle : goal.returns-clause-cycle
returns-clause-cycle c = endless

pub returns-clause-capacity : goal.returns-clause-capacity
returns-clause-capacity c = too_many

pub returns-clause-balance : goal.returns-clause-balance
returns-clause-balance c = uneven
