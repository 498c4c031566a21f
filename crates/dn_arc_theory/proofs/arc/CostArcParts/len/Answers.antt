use Rattle.std.proofs.Common.{rules}
use Rattle.dn_arc_theory.proofs.arc.CostArcParts.len.Goals as goal

pub returns : goal.returns
returns c = search rules
