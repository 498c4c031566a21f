use Rattle.dn_arc_theory.proofs.FormTwoLaws.{exchange_of_forms}
use Rattle.dn_laws.proofs.bundles.laws.exchange.Goals as goal

pub returns : goal.returns
returns c = exchange_of_forms
