use Rattle.dn_arc_theory.proofs.FormTwoLaws.{determination_of_forms}
use Rattle.dn_laws.proofs.bundles.laws.determination.Goals as goal

pub returns : goal.returns
returns c = determination_of_forms c.args.form
