-- Lemmas on how each command ends.
use Rattle.std.proofs.Common.{◌≡◌, ℕ, List, [], Option, Some, None, Ok, Err, IfSome, refl, sym, ◌∙◌, inr, ◌≤◌, arith}
use Rattle.dn_line.specs.declared.kind.Kind.{Kind}
use Rattle.dn_arc_theory.specs.declared.arc.Form.{Form}
use Rattle.dn_instance.specs.Companions.{companion_fit}
use Rattle.dn_instance.specs.State.SourceResults.{HoldsCopied}
use Rattle.dn_instance.specs.State.Helds.{Parsed, IsHeld, OfBoth, contents_kind}
use Rattle.dn_instance.specs.Instances.{Instance}
use Rattle.dn_instance.specs.Texts.{Reads}
use Rattle.dn_instance.specs.Validity.{IsValid}
use Rattle.dn_instance.specs.declared.companion.CompanionFault.{CompanionFault}
use Rattle.dn_instance.specs.declared.refusal.Refusal.{Refusal}
use Rattle.dn_instance.specs.declared.refusal.Refusal.TheVariants.{Write, CountTooLarge}
use Rattle.dn_instance.specs.declared.verdict.Verdict.TheVariants.{Same}
use Rattle.dn_instance.specs.declared.verdict.Verdict.{Verdict}
use Rattle.dn_instance.proofs.HeldLaws.{held_kind}
use Rattle.dn_instance.proofs.ValidLaws.{reads_valid}
use Rattle.dn_canon.specs.Prints.{print}
use Rattle.dn_canon.specs.State.Writes.{IsOfWriting, SinkAfter, WritesCanon}
use Rattle.dn_command.specs.Commands.{Canon, Compare}
use Rattle.dn_run.specs.Answers.{Answer, Done, Refused, Cut, IsAnswerTo, OutAfter}
use Rattle.dn_run.specs.State.Endings.{unwritten}
use Rattle.dn_run.specs.FilesRuns.{FilesRun, text_asked, ReadsOne, TwoAsked}
use Rattle.dn_run.specs.State.Findings.{IsFound, PutsFinding, verdict_status}
use Rattle.dn_run.specs.Outcomes.{OnText, OnTwoTexts, RanOn}
use Rattle.dn_run.specs.Findings.{Never, PutsCanon, PutsChecked, PutsCompared, PutsFit, Unfits}
use Rattle.dn_run.specs.Streams.{SinkRun, sink_run}
use Rattle.dn_run.specs.Texts.{AskedText, IsRefusedCanon, IsRefusedCopy, IsRefusedText, unopened}
use Rattle.dn_run.specs.State.TextReads.{IsCopy, IsRead}
use Rattle.dn_host.specs.declared.files.FilesFault.{FilesFault}
use Rattle.dn_run.proofs.OutcomeLaws.{by_behind, on_held, on_left, on_left_read, on_read, on_refused}
use Rattle.dn_sink.specs.Sinks.{SinkFacts}
use Rattle.dn_sink.specs.Rows.{line_text}
use Rattle.dn_compare.proofs.VerdictLaws.{one_first, same_first}
use Rattle.dn_compare.specs.FirstDifference.{IsFirstDifference}
use Rattle.dn_report.specs.Verdicts.{verdict_row}

-- `canon` ends as its answer says if the canonical text is not written
pub canon_unwritten : {S : Type 0} {text : AskedText} {out : SinkRun S} {held : Parsed} (form : Form) (e : Refusal)
    → IsRead (IsRefusedText text) text (Ok held) → IsOfWriting e
    → ((I : Instance) → IsValid I → IsHeld held I → WritesCanon out.facts out.old out.new form I (Err e))
    → OnText (PutsCanon form) (λ _. Never) (IsRefusedCanon form text) text out (unwritten text.name e)
canon_unwritten form Write h after writes = on_read Cut h (λ e. cc) (λ b I reads is.
    let (J, canon, w) = writes I (reads_valid b I reads) is in
    (I, reads, 0, print J, (refl, (J, record { canon = canon; text_is = refl })), w.0))
canon_unwritten {text = text} form CountTooLarge h after writes =
    on_read (Refused text.name CountTooLarge) h (λ e. cc) (λ b I reads is.
    let (J, canon, w) = writes I (reads_valid b I reads) is in (refl, (I, reads, (J, canon, w.1))))
canon_unwritten form _ h after writes = absurd after

-- if a canonical text is not written, `out` has failed, or is unchanged
pub canon_after : {S : Type 0} (sink : SinkFacts S) (old new : S) (name : List ℕ) (e : Refusal)
    → SinkAfter sink old new (Err e) → OutAfter (sink_run sink (old, new)) (unwritten name e)
canon_after sink old new name Write h = h
canon_after sink old new name _ h = h

-- `canon` may end because its text was not written
pub unwritten_answers : (form : Form) (name : List ℕ) (e : Refusal) → IsOfWriting e
    → IsAnswerTo (Canon name form) (unwritten name e)
unwritten_answers form name CountTooLarge h = (refl, inr refl)
unwritten_answers form name Write h = tt
unwritten_answers form name _ h = absurd h

-- a reason of reading to refuse a text is a reason of `canon`
canon_refused : (text : AskedText) (form : Form) (b : List ℕ) (e : Refusal) → IsRefusedText text b e
    → IsRefusedCanon form text b e
canon_refused text form b CountTooLarge h = absurd h
canon_refused text form b _ h = h

pub canon_unread : {S : Type 0} {text : AskedText} {out : SinkRun S} {refusal : Refusal} (form : Form)
    → IsRead (IsRefusedText text) text (Err refusal)
    → OnText (PutsCanon form) (λ _. Never) (IsRefusedCanon form text) text out (Refused text.name refusal)
canon_unread {text = text} {refusal = refusal} form h = on_refused h (λ b r. canon_refused text form b refusal r)

-- what was put for an instance that b reads as is right for b
finding_on : {S : Type 0} {P : ℕ → List ℕ → Type 0} (Puts : List ℕ → Instance → ℕ → List ℕ → Type 0)
    (Unfits : Instance → CompanionFault → Type 0) (Refuses : List ℕ → Refusal → Type 0) (name : List ℕ)
    (out : SinkRun S)
    (b : List ℕ) (I : Instance) → Reads b I → ((status : ℕ) (t : List ℕ) → P status t → Puts b I status t)
    → (answer : Answer) → PutsFinding P out answer → RanOn Puts Unfits Refuses name out b answer
finding_on Puts Unfits Refuses name out b I reads f (Done status) (t, p, a) = (I, reads, t, f status t p, a)
finding_on Puts Unfits Refuses name out b I reads f Cut (status, t, p, a) = (I, reads, status, t, f status t p, a)
finding_on Puts Unfits Refuses name out b I reads f _ p = absurd p

module _ {S : Type 0} {text : AskedText} {out : SinkRun S} {held : Parsed} {kept copy : List ℕ} (s : copy ≡ kept)
    (h : IsRead (IsRefusedCopy text) text (Ok held)) (c : IsCopy text kept (Ok held))
    (k : HoldsCopied [] kept held) where
  pub checked : {answer : Answer} → IsFound answer
      → ((I : Instance) → Reads copy I → IsHeld held I → PutsFinding (PutsChecked None copy I) out answer)
      → OnText (PutsChecked None) (λ _. Never) (IsRefusedCopy text) text out answer
  checked {answer} found puts =
      let (t, (I, reads, is), same) = k in
      let here : Reads copy I = rw (s ∙ same) reads in
      on_held answer h (λ e. rw e at found) (λ b none e I reads is.
      let same : copy ≡ b = rw s (rw e at (c none)) in
      on b I reads (rw same at (puts I (rw same reads) is))) (copy, on copy I here (puts I here is))
    where
      on : (b : List ℕ) (I : Instance) → Reads b I → PutsFinding (PutsChecked None b I) out answer
          → RanOn (PutsChecked None) (λ _. Never) (IsRefusedCopy text) text.name out b answer
      on b I reads =
          finding_on (PutsChecked None) (λ _. Never) (IsRefusedCopy text) text.name out b I reads (λ status t p. p)
          answer

-- after the left text was read, the run went on to the right one
pub asked_two : {F T : Type 0} {files : FilesRun F T} {mid : F} {left right : List ℕ} {answer : Answer}
    {Refuses : List ℕ → Refusal → Type 0} {held : Parsed} {Means : AskedText → AskedText → Type 0}
    → ReadsOne files.facts files.source files.old mid left
    → IsRead Refuses (text_asked files files.old mid left) (Ok held)
    → ReadsOne files.facts files.source mid files.new right
    → Means (text_asked files files.old mid left) (text_asked files mid files.new right)
    → TwoAsked files left right answer Means
asked_two {files = files} {mid = mid} {left = left} {held = held} first h asks means =
    let handed = no_fault (files.facts.fault mid left) h.not_handed in
    let read = by_behind (files.facts.behind files.old left) (λ b known (I, reads, is). (I, reads)) (h.handed handed) in
    record {
      mid = mid;
      first = first;
      second = inr (record { handed = handed; read = read; asks = asks });
      means = means;
    }
  where
    no_fault : (fault : Option FilesFault) → IfSome fault (λ f. Ok held ≡ Err (unopened f)) → fault ≡ None
    no_fault None h = refl
    no_fault (Some f) h = cc

-- `check` of two texts puts the lines of both if the companion fits
module _ {S : Type 0} {left right : AskedText} {out : SinkRun S} {graph companion : Parsed}
    (h : IsRead (IsRefusedCopy left) left (Ok graph)) (k : IsRead (IsRefusedText right) right (Ok companion))
    {kept copy : List ℕ} (s : copy ≡ kept) (c : IsCopy left kept (Ok graph)) (all : HoldsCopied [] kept graph)
    (fit : OfBoth graph companion (λ I J. Ok tt ≡ companion_fit I J)) {with : Kind}
    (w : with ≡ contents_kind companion.contents) where
  pub fits : {answer : Answer} → ((I : Instance) → Reads copy I → IsHeld graph I
      → PutsFinding (PutsChecked (Some with) copy I) out answer)
      → OnTwoTexts PutsFit Unfits (IsRefusedCopy left) left right out answer
  fits {answer} puts =
      let (t, (I, reads, is), same) = all in
      let here : Reads copy I = rw (s ∙ same) reads in
      on_left answer h (λ b none e I reads is.
      let same : copy ≡ b = rw s (rw e at (c none)) in
      on b I (reads_valid b I reads) is (rw same at (puts I (rw same reads) is)))
      (copy, I, here, (on copy I (reads_valid copy I here) is (puts I here is)).some)
    where
      on : (b : List ℕ) (I : Instance) → IsValid I → IsHeld graph I
          → PutsFinding (PutsChecked (Some with) b I) out answer
          → OnText (λ x J. PutsFit b I J) (Unfits I) (IsRefusedText right) right out answer
      on b I v is p = on_read answer k (λ e. rw e at p) (λ x J reads is'.
          finding_on (λ x J. PutsFit b I J) (Unfits I) (IsRefusedText right) right.name out x J reads
          (λ status t p. (
            sym (fit I J v (reads_valid x J reads) is is'),
            rw (w ∙ held_kind companion J is') at p,
          )) answer p)

most_of : (v : Verdict) → verdict_status v ≤ 1
most_of Same = omega arith
most_of _ = omega arith

-- the status of a verdict is 0 only if nothing differs
same_of : (v : Verdict) → verdict_status v ≡ 0 → v ≡ Same
same_of Same e = refl
same_of _ e = cc

-- the line and the status of a first difference are what `compare` puts
pub compared_as : (I J : Instance) (v : Verdict) (status : ℕ) → IsFirstDifference I J v → status ≡ verdict_status v
    → PutsCompared I J status (line_text (verdict_row v))
compared_as I J v status first e = record {
  verdict = v;
  first = first;
  text_is = refl;
  most = rw e (most_of v);
  same = (
    λ zero. (rw (same_of v (sym e ∙ zero)) at first).true_of,
    λ same. rw (e, one_first I J v Same first (same_first I J same)),
  );
}

-- if both texts were read, `compare` puts their first difference
pub compared : {S : Type 0} {left right : AskedText} {out : SinkRun S} {one other : Parsed} {answer : Answer}
    → IsRead (IsRefusedText left) left (Ok one) → IsRead (IsRefusedText right) right (Ok other) → IsFound answer
    → ((I J : Instance) → IsValid I → IsValid J → IsHeld one I → IsHeld other J
    → PutsFinding (PutsCompared I J) out answer)
    → OnTwoTexts (λ _. PutsCompared) (λ _ _. Never) (IsRefusedText left) left right out answer
compared {right = right} {out = out} {answer = answer} h k found puts =
    on_left_read answer h (λ b I reads is. on_read answer k (λ e. rw e at found) (λ x J reads' is'.
    finding_on (λ x J. PutsCompared I J) (λ _. Never) (IsRefusedText right) right.name out x J reads' (λ status t p. p)
    answer (puts I J (reads_valid b I reads) (reads_valid x J reads') is is')))

-- `compare` may end done with 0 or 1, or with `Cut`
pub found_answers : (l r : List ℕ) (answer : Answer) → IsFound answer → IsAnswerTo (Compare l r) answer
found_answers l r (Done status) h = h
found_answers l r Cut h = tt
found_answers l r _ h = absurd h
