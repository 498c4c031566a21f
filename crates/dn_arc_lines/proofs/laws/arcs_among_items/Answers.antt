use Rattle.dn_arc_lines.proofs.ItemsLaws.{agree}
use Rattle.dn_arc_lines.proofs.laws.arcs_among_items.Goals as goal

pub returns-clause-fine : goal.returns-clause-fine
returns-clause-fine c ls clean = (agree ls clean).fine

pub returns-clause-arcs : goal.returns-clause-arcs
returns-clause-arcs c ls clean = (agree ls clean).arcs
