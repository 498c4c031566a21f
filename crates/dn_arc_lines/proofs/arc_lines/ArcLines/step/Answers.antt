use Rattle.std.proofs.Common.{◌≡◌, ℕ, List, [], ◌++◌, take, true, false, None, ap, subst, sym, ◌∙◌, append-nil}
use Rattle.dn_line.specs.State.LineStates.{has_end, used_of, last_line}
use Rattle.dn_line.proofs.LineEndLaws.{used_within}
use Rattle.dn_line.proofs.PartsLaws.{Parts}
use Rattle.dn_line.proofs.LineReaderLaws.{open_of_line, step_follows}
use Rattle.dn_instance.specs.Readers.{ended}
use Rattle.dn_instance.proofs.PieceSteps.{ended_then, ends_at, goes_on}
use Rattle.dn_arc_lines.specs.State.ArcLines.{arc_lines_from}
use Rattle.dn_arc_lines.specs.State.Reading.{HasLines}
use Rattle.dn_arc_lines.proofs.arc_lines.ArcLines.step.Goals as goal

pub returns-in-Ok-clause-hands : goal.returns-in-Ok-clause-hands
returns-in-Ok-clause-hands c t h =
    let p = c.args.piece.now in
    let u : List ℕ = t ++ take (used_of p) p in
    let line =
    rw (step_follows h.line.line t p h.line.open_is c.requires.some) at
    (c.in-Ok.ensures.stands h.line.line h.line.stands) in
    let e : has_end p ≡ true = sym c.in-Ok.ensures.ok.1 ∙ c.if-step.true in
    let adds = c.close.ensures.taken (ended t) (last_line u) h.read line in
    rw c.in-Ok.ensures.ok.0
    (record {
      stands = record {
        read = subst (HasLines c.close.new.self) (sym (ended_then t p e)) adds.read;
        line = record { line = last_line u; stands = rw c.close.ensures.line line; open_is = open_of_line u };
        stops = λ code is. ap (λ (q : Parts). q.1) (ends_at t p e);
      };
      rows = adds.rows;
      out_is = adds.out_is;
      rows_are = ap (arc_lines_from None 0) (ended_then t p e) ∙ adds.rows_are;
    })

pub returns-in-Ok-2-clause-hands : goal.returns-in-Ok-2-clause-hands
returns-in-Ok-2-clause-hands c t h =
    let p = c.args.piece.now in
    let u : List ℕ = t ++ take (used_of p) p in
    let line =
    rw (step_follows h.line.line t p h.line.open_is c.requires.some) at
    (c.in-Ok.ensures.stands h.line.line h.line.stands) in
    let e : has_end p ≡ false = sym c.in-Ok.ensures.ok.1 ∙ c.if-step.false in
    rw c.in-Ok.ensures.ok.0
    (record {
      stands = record {
        read = rw (goes_on t p e) h.read;
        line = record { line = last_line u; stands = line; open_is = open_of_line u };
        stops = λ code is. absurd (let none = c.requires.fine in cc);
      };
      rows = [];
      out_is = sym (append-nil _);
      rows_are = ap (arc_lines_from None 0) (goes_on t p e) ∙ sym (append-nil _);
    })

pub returns-in-Ok-2-clause-bound : goal.returns-in-Ok-2-clause-bound
returns-in-Ok-2-clause-bound c = rw c.in-Ok.ensures.ok.0 (used_within c.args.piece.now)
