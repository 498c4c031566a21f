use Rattle.dn_arc_lines.proofs.ItemsLaws.{with_end}
use Rattle.dn_arc_lines.proofs.laws.all_lines.Goals as goal

pub returns : goal.returns
returns c t = with_end t
