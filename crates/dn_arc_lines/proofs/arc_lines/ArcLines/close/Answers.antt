use Rattle.std.proofs.Common.{◌≡◌, ◌+◌, Some, Ok, Err, refl, sym, ◌∙◌, append-nil, arith}
use Rattle.std.proofs.lemmas.List.{drop-set-lt, take_more_set}
use Rattle.dn_line.specs.declared.code.Code.TheVariants.{TooLong}
use Rattle.dn_arc_lines.specs.State.ArcLines.{arc_line_in}
use Rattle.dn_arc_lines.proofs.LinesLaws.{grows}
use Rattle.dn_arc_lines.proofs.RowsLaws.{in_time, too_late}
use Rattle.dn_arc_lines.proofs.arc_lines.ArcLines.close.Goals as goal

pub returns-then-self-ge-LAST-clause-taken : goal.returns-then-self-ge-LAST-clause-taken
returns-then-self-ge-LAST-clause-taken c ls l h at =
    let old = c.args.self.now in
    grows old (record old { fault = Some TooLong }) ls l.bytes (Err TooLong) _ _ h c.requires.fine
    (rw (too_late old.number (omega (arith, c.if-self-ge-LAST.true)))) refl refl refl h.few (sym (append-nil _))

pub returns-in-Some-clause-taken : goal.returns-in-Some-clause-taken
returns-in-Some-clause-taken c ls l h at =
    let old = c.args.self.now in
    let is : arc_line_in (old.number + 1) c.in-Ok.item ≡ Some c.in-Some.arc =
    sym c.arc_line_in.ensures ∙ c.in-Some.is in
    grows old (record old { known = c.kind_then-self.result; number = old.number + 1 }) ls l.bytes (Ok c.in-Ok.item)
    _ _ h c.requires.fine
    (rw (in_time (old.number + 1) (omega (arith, c.if-self-ge-LAST.false))) (sym (c.fields.ensures l at) ∙ c.in-Ok.is))
    c.kind_then-self.ensures (rw c.requires.fine (omega arith)) (rw c.requires.fine)
    (omega (arith, c.if-self-ge-LAST.false))
    (rw is (take_more_set c.args.out.now c.args.at c.in-Some.arc c.requires.room))

pub returns-in-None-clause-taken : goal.returns-in-None-clause-taken
returns-in-None-clause-taken c ls l h at =
    let old = c.args.self.now in
    let is = sym c.arc_line_in.ensures ∙ c.in-None.is in
    grows old (record old { known = c.kind_then-self.result; number = old.number + 1 }) ls l.bytes (Ok c.in-Ok.item)
    _ _ h c.requires.fine
    (rw (in_time (old.number + 1) (omega (arith, c.if-self-ge-LAST.false))) (sym (c.fields.ensures l at) ∙ c.in-Ok.is))
    c.kind_then-self.ensures (rw c.requires.fine (omega arith)) (rw c.requires.fine)
    (omega (arith, c.if-self-ge-LAST.false))
    (rw is (sym (append-nil _)))

pub returns-in-Err-clause-taken : goal.returns-in-Err-clause-taken
returns-in-Err-clause-taken c ls l h at =
    let old = c.args.self.now in
    grows old (record old { fault = Some c.in-Err.code }) ls l.bytes (Err c.in-Err.code) _ _ h c.requires.fine
    (rw (in_time (old.number + 1) (omega (arith, c.if-self-ge-LAST.false))) (sym (c.fields.ensures l at) ∙ c.in-Err.is))
    refl refl refl h.few (sym (append-nil _))

pub returns-in-Some-clause-rest : goal.returns-in-Some-clause-rest
returns-in-Some-clause-rest c = drop-set-lt (c.args.at + 1) c.args.out.now c.args.at c.in-Some.arc (omega arith)
