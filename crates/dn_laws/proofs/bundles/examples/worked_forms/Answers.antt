use Rattle.dn_laws.proofs.bundles.ExampleLaws.{worked_form_one, worked_same_one, worked_same_two}
use Rattle.dn_laws.proofs.bundles.examples.worked_forms.Goals as goal

pub returns-clause-one : goal.returns-clause-one
returns-clause-one c = worked_form_one

pub returns-clause-same_one : goal.returns-clause-same_one
returns-clause-same_one c = worked_same_one

pub returns-clause-same_two : goal.returns-clause-same_two
returns-clause-same_two c = worked_same_two
