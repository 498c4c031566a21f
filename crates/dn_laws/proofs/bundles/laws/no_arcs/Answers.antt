use Rattle.dn_arc_theory.proofs.DifferencesLaws.{no_arcs_cost}
use Rattle.dn_laws.proofs.bundles.laws.no_arcs.Goals as goal

pub returns-clause-nothing : goal.returns-clause-nothing
returns-clause-nothing c = no_arcs_cost
