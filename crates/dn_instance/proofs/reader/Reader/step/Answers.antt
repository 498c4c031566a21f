use Rattle.std.proofs.Common.{arith, ◌≡◌, ℕ, List, ◌++◌, take, true, false, sym, ◌∙◌}
use Rattle.dn_line.specs.State.LineStates.{has_end, used_of, last_line}
use Rattle.dn_line.proofs.LineReaderLaws.{open_of_line, step_follows}
use Rattle.dn_instance.specs.Readers.{ended}
use Rattle.dn_instance.proofs.PieceSteps.{ended_then, goes_on}
use Rattle.dn_instance.proofs.reader.Reader.step.Goals as goal
use Rattle.dn_line.proofs.LineEndLaws.{used_within}

pub returns-in-Ok-close-clause-advances : goal.returns-in-Ok-close-clause-advances
returns-in-Ok-close-clause-advances c t h =
    let p = c.args.piece.now in
    let u : List ℕ = t ++ take (used_of p) p in
    let line =
    rw (step_follows h.line.line t p h.line.open_is c.requires) at (c.in-Ok.ensures.stands h.line.line h.line.stands) in
    let e : has_end p ≡ true = sym c.in-Ok.ensures.ok.1 ∙ c.if-step.true in
    record {
      read = rw (ended_then t p e) (c.in-Ok-close.ensures.taken (ended t) (last_line u) h.read line);
      line = record { line = last_line u; stands = rw c.close.ensures.line line; open_is = open_of_line u };
    }

pub returns-in-Err-close-clause-advances : goal.returns-in-Err-close-clause-advances
returns-in-Err-close-clause-advances c t h =
    let p = c.args.piece.now in
    let u : List ℕ = t ++ take (used_of p) p in
    let line =
    rw (step_follows h.line.line t p h.line.open_is c.requires) at (c.in-Ok.ensures.stands h.line.line h.line.stands) in
    let e : has_end p ≡ true = sym c.in-Ok.ensures.ok.1 ∙ c.if-step.true in
    let taken = c.in-Err-close.ensures.taken (ended t) (last_line u) h.read line in (
      taken.0,
      rw (ended_then t p e) taken.1,
      rw (ended_then t p e) taken.2,
      omega (arith, taken.3),
    )

pub returns-in-Ok-2-clause-advances : goal.returns-in-Ok-2-clause-advances
returns-in-Ok-2-clause-advances c t h =
    let p = c.args.piece.now in
    let u : List ℕ = t ++ take (used_of p) p in
    let line =
    rw (step_follows h.line.line t p h.line.open_is c.requires) at (c.in-Ok.ensures.stands h.line.line h.line.stands) in
    let e : has_end p ≡ false = sym c.in-Ok.ensures.ok.1 ∙ c.if-step.false in
    record {
      read = rw (goes_on t p e) h.read;
      line = record { line = last_line u; stands = line; open_is = open_of_line u };
    }

pub returns-in-Ok-close-clause-bound : goal.returns-in-Ok-close-clause-bound
returns-in-Ok-close-clause-bound c = rw c.in-Ok.ensures.ok.0 (used_within c.args.piece.now)

pub returns-in-Ok-2-clause-bound : goal.returns-in-Ok-2-clause-bound
returns-in-Ok-2-clause-bound c = rw c.in-Ok.ensures.ok.0 (used_within c.args.piece.now)
