use Rattle.dn_arc_theory.proofs.LengthsLaws.{length_meaning}
use Rattle.dn_arc_theory.proofs.CurvesLaws.{curve_meaning}
use Rattle.dn_laws.proofs.bundles.laws.meanings.Goals as goal

pub returns-clause-lengths : goal.returns-clause-lengths
returns-clause-lengths c = length_meaning

pub returns-clause-costs : goal.returns-clause-costs
returns-clause-costs c = curve_meaning
