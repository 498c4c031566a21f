use Rattle.dn_arc_theory.proofs.SplitsLaws.{some_least}
use Rattle.dn_laws.proofs.bundles.laws.some_least_cost.Goals as goal

pub returns : goal.returns
returns c = some_least
