use Rattle.std.proofs.Common.{ap, ◌∙◌}
use Rattle.dn_line.specs.Pieces.{lines}
use Rattle.dn_instance.specs.Texts.{items_of}
use Rattle.dn_arc_lines.specs.State.ArcLines.{without_lines}
use Rattle.dn_arc_lines.proofs.InstanceLaws.{of_instance}
use Rattle.dn_arc_lines.proofs.ItemsLaws.{agree, with_end}
use Rattle.dn_arc_lines.proofs.laws.arcs_of_text.Goals as goal

pub returns-clause-fine : goal.returns-clause-fine
returns-clause-fine c t I reads = (agree (lines t) reads.clean).fine

pub returns-clause-arcs : goal.returns-clause-arcs
returns-clause-arcs c t I reads =
    let a = agree (lines t) reads.clean in
    ap without_lines (with_end t) ∙ a.arcs ∙ of_instance (items_of (lines t)) I a.kinds reads.instance_is
