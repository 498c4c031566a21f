use Rattle.std.proofs.Common.{[], refl, sym, ◌∙◌}
use Rattle.dn_line.proofs.LineReaderLaws.{anew, none_stands, unended}
use Rattle.dn_line.proofs.LineStateLaws.{no_bytes}
use Rattle.dn_line.proofs.line_reader.LineReader.step.Goals as goal

pub returns-then-is_empty-clause-ok : goal.returns-then-is_empty-clause-ok
returns-then-is_empty-clause-ok c =
    rw (no_bytes c.args.piece.now (sym c.is_empty.ensures ∙ c.if-is_empty.true)) (refl, refl)

pub returns-then-is_empty-clause-stands : goal.returns-then-is_empty-clause-stands
returns-then-is_empty-clause-stands c l h =
    rw (no_bytes c.args.piece.now (sym c.is_empty.ensures ∙ c.if-is_empty.true)) h

pub returns-then-self-clause-stands : goal.returns-then-self-clause-stands
returns-then-self-clause-stands c l h =
    let e = unended c.args.self.now l h c.if-self.true in
    rw e (c.go.ensures.stands l.bytes (rw e at h))

pub returns-clause-stands : goal.returns-clause-stands
returns-clause-stands c l h =
    rw (anew c.args.self.now l c.args.piece.now h c.if-self.false (sym c.is_empty.ensures ∙ c.if-is_empty.false)) at
    (c.go-2.ensures.stands [] (rw c.if-self.false (none_stands c.clear.new.self c.clear.ensures)))
