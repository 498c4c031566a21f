use Rattle.std.proofs.Common.{rules}
use Rattle.dn_arc_theory.proofs.arc.CostArcParts.part.Goals as goal

pub returns-in-0 : goal.returns-in-0
returns-in-0 c = search rules
