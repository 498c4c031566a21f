use Rattle.dn_laws.proofs.bundles.ExampleLaws.{worked_at_two, worked_at_five}
use Rattle.dn_laws.proofs.bundles.examples.worked_costs.Goals as goal

pub returns-clause-at_two : goal.returns-clause-at_two
returns-clause-at_two c = worked_at_two

pub returns-clause-at_five : goal.returns-clause-at_five
returns-clause-at_five c = worked_at_five
