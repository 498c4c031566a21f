use Rattle.std.proofs.Common.{sym, ◌∙◌}
use Rattle.dn_instance.specs.Readers.{ended}
use Rattle.dn_instance.proofs.PieceSteps.{none_open}
use Rattle.dn_arc_lines.proofs.HandsLaws.{hands_rows}
use Rattle.dn_arc_lines.proofs.arc_lines.ArcLines.advance.Goals as goal

pub returns-in-Some-clause-hands : goal.returns-in-Some-clause-hands
returns-in-Some-clause-hands c t h =
    let none =
    none_open t h.line.line h.line.open_is (sym c.if-not-pending.true ∙ c.pending.ensures h.line.line h.line.stands) in
    hands_rows c.args.self.now c.take_rows.new.self t c.args.piece.now c.in-Some.given.used _ _ h none
    c.take_rows.ensures.line (c.in-Some.ensures.taken (ended t) h.read)
