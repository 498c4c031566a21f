use Rattle.dn_arc_theory.proofs.LengthsLaws.{lengths_determined}
use Rattle.dn_laws.proofs.bundles.laws.determination_of_sums.Goals as goal

pub returns-clause-lengths : goal.returns-clause-lengths
returns-clause-lengths c = lengths_determined
