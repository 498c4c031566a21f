use Rattle.dn_arc_theory.proofs.LengthsLaws.{lengths_differ}
use Rattle.dn_laws.proofs.bundles.laws.differences.Goals as goal

pub returns-clause-lengths : goal.returns-clause-lengths
returns-clause-lengths c = lengths_differ
