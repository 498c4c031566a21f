use Rattle.std.proofs.Common.{rules, arith}
use Rattle.std.proofs.lemmas.Grind.{common_steps}
use Rattle.dn_arc_theory.specs.declared.arc.Form.TheVariants.{One, Two}
use Rattle.dn_laws.specs.State.BundleExamples.{worked_one, canon_in_two_alone}
use Rattle.dn_laws.proofs.bundles.ExampleLaws.{worked_form_one}
use Rattle.dn_laws.proofs.texts.ExampleLaws.{canonical_at, canonical_here}
use Rattle.dn_laws.proofs.texts.examples.canonical_instances.Goals as goal

pub returns-clause-one : goal.returns-clause-one
returns-clause-one c = canonical_at One worked_one worked_form_one

pub returns-clause-one_is_not_two : goal.returns-clause-one_is_not_two
returns-clause-one_is_not_two c i = (let h = canonical_here Two worked_one i in search rules)

pub returns-clause-two : goal.returns-clause-two
returns-clause-two c = canonical_at Two canon_in_two_alone (search rules)

pub returns-clause-two_is_not_one : goal.returns-clause-two_is_not_one
returns-clause-two_is_not_one c i = (let h = canonical_here One canon_in_two_alone i in grind (arith, common_steps))
