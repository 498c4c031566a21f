use Rattle.std.proofs.Common.{◌≡◌, ℕ, List, ◌++◌, length, take, ◌∙◌, arith, take_all}
use Rattle.dn_instance.specs.Readers.{ended}
use Rattle.dn_instance.specs.State.ReaderResults.{IsRefused}
use Rattle.dn_instance.specs.State.ReaderStates.{StopsAfter, IsReading}
use Rattle.dn_instance.specs.declared.refusal.Refusal.{Refusal}
use Rattle.dn_instance.specs.declared.refusal.Refusal.TheVariants.{Memory}
use Rattle.dn_instance.proofs.PieceSteps.{ended_more, rest_len, step_on}
use Rattle.dn_instance.proofs.ReaderLaws.{all_same, still_refused, refused_after, refused_on, refused, refuses, more_from, more_count}
use Rattle.dn_instance.proofs.reader.Reader.feed.Goals as goal

pub returns-in-Some-clause-stands : goal.returns-in-Some-clause-stands
returns-in-Some-clause-stands c t h = still_refused c.args.self.now t c.args.piece.now c.in-Some.refusal c.in-Some.is h

pub returns-in-Some-clause-fed : goal.returns-in-Some-clause-fed
returns-in-Some-clause-fed c t h =
    let r = c.args.self.now in
    let u = t ++ c.args.piece.now in
    (refused r u c.in-Some.refusal c.in-Some.is (still_refused r t c.args.piece.now c.in-Some.refusal c.in-Some.is h)).0

-- the refused line is a complete line of the text with the piece
refused_within : (c : goal.In-Err) (t : List ℕ)
    (reads : IsReading c.loop-at.self (t ++ take c.loop-at.at c.args.piece.now))
    → StopsAfter c.advance.new.self (length (ended t)) (ended (t ++ c.args.piece.now)) c.in-Err.refusal
refused_within c t reads =
    let p = c.args.piece.now in
    let i = c.loop-at.at in
    let u = t ++ take i p in
    let stopped = c.in-Err.ensures.advances u reads in
    refused_after c.advance.new.self (length (ended u)) _ _ _ c.in-Err.refusal
    (more_count (ended t) (ended u) (ended_more t (take i p))) (more_from t p i stopped.0) stopped.2

refused_at_all : (before : ℕ) (ls : List (List ℕ)) (e : Refusal) → IsRefused before ls e → IsRefused 0 ls e
refused_at_all before ls e r =
    refused_on before 0 ls ls e (omega arith) (all_same ls) r

pub returns-in-Err-clause-stands : goal.returns-in-Err-clause-stands
returns-in-Err-clause-stands c t h =
    let r = refused_within c t (c.loop-at.invariant.reads t h) in
    let u = t ++ c.args.piece.now in
    refuses c.advance.new.self u c.in-Err.refusal r.0
    (refused_at_all (length (ended t)) (ended u) c.in-Err.refusal r.1, r.2)

pub returns-in-Err-clause-fed : goal.returns-in-Err-clause-fed
returns-in-Err-clause-fed c t h =
    let r = refused_within c t (c.loop-at.invariant.reads t h) in
    refused_at_all (length (ended t)) (ended (t ++ c.args.piece.now)) c.in-Err.refusal r.1

pub returns-in-Err-clause-memory : goal.returns-in-Err-clause-memory
returns-in-Err-clause-memory c t h none is =
    let r = refused_within c t (c.loop-at.invariant.reads t h) in
    let e : c.in-Err.refusal ≡ Memory = cc in (rw e at r.1, r.3)

pub loop-at-preserved : goal.loop-at-preserved
loop-at-preserved c = record {
  within = omega (arith, c.in-Ok.ensures.bound, rest_len c.args.piece.now c.loop-at.at, c.loop-at-test.true);
  fine = c.in-Ok.ensures.refusal ∙ c.loop-at.invariant.fine;
  reads = λ t h.
      let on = c.in-Ok.ensures.advances (t ++ take c.loop-at.at c.args.piece.now) (c.loop-at.invariant.reads t h) in
      rw (on.1, ← step_on t c.args.piece.now c.loop-at.at on.0) on.2;
}

pub returns-clause-fed : goal.returns-clause-fed
returns-clause-fed c t h =
    rw (take_all c.loop-at.at c.args.piece.now (omega (arith, c.loop-at-test.false))) at
    (c.loop-at.invariant.reads t h).read.clean
