-- Lemmas on what a run does for the command that its words ask for, and on the texts that it does not accept.
use Rattle.std.proofs.Common.{◌≡◌, ◌⊎◌, ℕ, List, Option, Some, None, IfSome, refl, sym, ◌∙◌, inl, inr, arith, Result, true, false}
use Rattle.dn_arc_theory.specs.declared.arc.Form.{Form}
use Rattle.dn_instance.specs.Instances.{Instance}
use Rattle.dn_instance.specs.Texts.{Reads}
use Rattle.dn_instance.specs.declared.companion.CompanionFault.{CompanionFault}
use Rattle.dn_instance.specs.declared.refusal.Refusal.{Refusal}
use Rattle.dn_instance.specs.declared.refusal.Refusal.TheVariants.{Text, Memory, Write, CountTooLarge}
use Rattle.dn_instance.proofs.FirstFaults.{not_both}
use Rattle.dn_instance.proofs.ValidLaws.{some_is}
use Rattle.dn_canon.specs.CanonTexts.{IsTooLarge}
use Rattle.dn_command.specs.Commands.{Asked, Show, Check, Canon, Compare, asks, names_twice, plain_asked}
use Rattle.dn_run.specs.Answers.{Answer, Done, Refused, Unfit, Cut, refusal_status, status_of, Tells}
use Rattle.dn_run.specs.Details.{Detail}
use Rattle.dn_run.specs.State.Briefs.{in_brief, known_text}
use Rattle.dn_run.specs.FilesRuns.{FilesRun, files_run, in_full}
use Rattle.dn_run.specs.Outcomes.{IsRefusedAs, OnText, OnTwoTexts, RanOn}
use Rattle.dn_run.specs.Findings.{Unfits}
use Rattle.dn_run.specs.Runs.{Performs, IsRefusedRun}
use Rattle.dn_run.specs.State.NotAccepted.{NotAccepted}
use Rattle.dn_run.specs.Streams.{SinkRun, sink_run}
use Rattle.dn_run.specs.Texts.{AskedText, IsRefusedCanon, IsRefusedCopy, IsRefusedText, unopened}
use Rattle.dn_host.specs.declared.files.FilesFault.{FilesFault}
use Rattle.dn_host.specs.declared.files.FilesFault.TheVariants as Files
use Rattle.dn_run.proofs.OutcomeLaws.{by_behind}
use Rattle.dn_line.specs.Sources.{SourceFacts}
use Rattle.dn_sink.specs.Sinks.{SinkFacts}
use Rattle.dn_command.specs.Requests.{IsReadByClap}
use Rattle.dn_command.specs.declared.command.Command.{Command}
use Rattle.dn_command.specs.declared.request.Request.TheVariants as requests
use Rattle.dn_run.specs.State.Endings.{answer_of}
use Rattle.dn_run.specs.State.CommandRuns.{Does}
use Rattle.dn_host.specs.Takings.{FilesFacts}
use Rattle.dn_run.specs.Words.{AskedRun, Ran, twice_line}
use Rattle.dn_run.specs.declared.stop.Stop.{Stop}

-- a text reads as one instance at most
one_reading : (b : List ℕ) (I J : Instance) → Reads b I → Reads b J → I ≡ J
one_reading b I J r s = some_is I J (sym r.instance_is ∙ s.instance_is)

-- a text of which the answer ends with status 2 was handed out
handed_or_not : (fault : Option FilesFault) (name : List ℕ) (answer : Answer) → status_of answer ≡ 2
    → IfSome fault (λ f. answer ≡ Refused name (unopened f)) → fault ≡ None
handed_or_not None name answer two h = refl
handed_or_not (Some Files.Device) name answer two h = cc (rw h at two)
handed_or_not (Some Files.Memory) name answer two h = cc (rw h at two)

module _ {S : Type 0} {Puts : List ℕ → Instance → ℕ → List ℕ → Type 0} {Unfits : Instance → CompanionFault → Type 0}
    {Refuses : List ℕ → Refusal → Type 0} {text : AskedText} {out : SinkRun S} (P : List ℕ → Type 0)
    (done : (b : List ℕ) (I : Instance) (status : ℕ) (t : List ℕ) → Puts b I status t → status ≡ 2 → ⊥)
    (refused : (b : List ℕ) (e : Refusal) → Refuses b e → refusal_status e ≡ 2 → P b)
    (unfit : (b : List ℕ) (I : Instance) (fault : CompanionFault) → Reads b I → Unfits I fault → P b) where
  -- if a command with one text ends with status 2, P holds of its bytes if they are known
  pub none_of : (answer : Answer) → status_of answer ≡ 2 → OnText Puts Unfits Refuses text out answer
      → IfSome text.behind P
  none_of answer two h =
      by_behind text.behind (λ b known r. by_answer b answer two r)
      (h.handed (handed_or_not text.fault text.name answer two h.not_handed))
    where
      by_answer : (b : List ℕ) (answer : Answer) → status_of answer ≡ 2
          → RanOn Puts Unfits Refuses text.name out b answer → P b
      by_answer b (Done status) two (I, reads, t, p, a) = absurd (done b I status t p two)
      by_answer b (Refused of e) two (n, r) = refused b e r two
      by_answer b (Unfit of fault) two (I, reads, n, u) = unfit b I fault reads u
      by_answer b Cut two r = cc

-- a text that is refused with status 2 when it is read reads as no instance
unread : (text : AskedText) (b : List ℕ) (e : Refusal) → IsRefusedText text b e → refusal_status e ≡ 2
    → (I : Instance) → Reads b I → ⊥
unread text b (Text place code) h two I reads = not_both b I place code reads h
unread text b Write h two I reads = h
unread text b CountTooLarge h two I reads = h
unread text b _ h two I reads = cc

uncopied : (text : AskedText) (b : List ℕ) (e : Refusal) → IsRefusedCopy text b e → refusal_status e ≡ 2
    → (I : Instance) → Reads b I → ⊥
uncopied text b Memory h two I reads = cc
uncopied text b e h two I reads = unread text b e h two I reads

too_large : (form : Form) (text : AskedText) (b : List ℕ) (e : Refusal) → IsRefusedCanon form text b e
    → refusal_status e ≡ 2 → (I : Instance) → Reads b I → IsTooLarge form I
too_large form text b CountTooLarge (J, reads', large) two I reads = rw (one_reading b J I reads' reads) at large
too_large form text b e h two I reads = absurd (unread text b e h two I reads)

module _ {S : Type 0} {Puts : List ℕ → Instance → Instance → ℕ → List ℕ → Type 0}
    {Unfits : Instance → Instance → CompanionFault → Type 0} {Refuses : List ℕ → Refusal → Type 0}
    {left right : AskedText} {out : SinkRun S} (P : Instance → Instance → Type 0)
    (done : (b : List ℕ) (I J : Instance) (status : ℕ) (t : List ℕ) → Puts b I J status t → status ≡ 2 → ⊥)
    (refused : (b : List ℕ) (e : Refusal) → Refuses b e → refusal_status e ≡ 2 → (I : Instance) → Reads b I → ⊥)
    (unfit : (I J : Instance) (fault : CompanionFault) → Unfits I J fault → P I J) where
  -- if a command with two texts ends with status 2, P holds of the instances that their bytes read as, if the bytes are
  -- known
  pub none_of_two : (answer : Answer) → status_of answer ≡ 2 → OnTwoTexts Puts Unfits Refuses left right out answer
      → IfSome left.behind (λ b. IfSome right.behind (λ c. (I J : Instance) → Reads b I → Reads c J → P I J))
  none_of_two answer two h =
      by_behind left.behind (λ b known. by_case b)
      (h.handed (handed_or_not left.fault left.name answer two h.not_handed))
    where
      if_known : (Q : List ℕ → Type 0) (o : Option (List ℕ)) → ((c : List ℕ) → Q c) → IfSome o Q
      if_known Q None q = tt
      if_known Q (Some c) q = q c

      by_case : (b : List ℕ) → IsRefusedAs Refuses left.name b answer ⊎
          ((I : Instance) × Reads b I × OnText (λ c J. Puts b I J) (Unfits I) (IsRefusedText right) right out answer)
          → IfSome right.behind (λ c. (I J : Instance) → Reads b I → Reads c J → P I J)
      by_case b (inl (e, is, r)) =
          if_known _ right.behind (λ c I J reads _. absurd (refused b e r (rw is at two) I reads))
      by_case b (inr (K, reads, on)) =
          none_of (λ c. (I J : Instance) → Reads b I → Reads c J → P I J) (λ c J. done b K J)
          (λ c e r e2 I J readsI readsJ. absurd (unread right c e r e2 J readsJ))
          (λ c L fault readsL u I J readsI readsJ.
          rw (one_reading b I K readsI reads, one_reading c J L readsJ readsL) (unfit K L fault u)) answer two on

-- a command that ends with status 2 does not accept its texts
pub not_accepted : {S : Type 0} (behind : List ℕ → Option (List ℕ)) (out : SinkRun S) (asked : Asked) (answer : Answer)
    → Performs (in_brief behind) out asked answer → status_of answer ≡ 2 → NotAccepted behind asked
not_accepted behind out (Show name) answer p two =
    none_of (λ b. (I : Instance) → Reads b I → ⊥) (λ b I status t q e. omega (arith, q.0, e))
    (unread (known_text name (behind name))) (λ b I fault reads u. absurd u) answer two p
not_accepted behind out (Check name None) answer p two =
    none_of (λ b. (I : Instance) → Reads b I → ⊥) (λ b I status t q e. omega (arith, q.0, e))
    (uncopied (known_text name (behind name))) (λ b I fault reads u. absurd u) answer two p
not_accepted behind out (Check name (Some companion)) answer p two =
    none_of_two (λ I J. (fault : CompanionFault) × Unfits I J fault) (λ b I J status t q e. omega (arith, q.1.0, e))
    (uncopied (known_text name (behind name))) (λ I J fault u. (fault, u)) answer two p
not_accepted behind out (Canon name form) answer p two =
    none_of (λ b. (I : Instance) → Reads b I → IsTooLarge form I) (λ b I status t q e. omega (arith, q.0, e))
    (too_large form (known_text name (behind name))) (λ b I fault reads u. absurd u) answer two p
not_accepted behind out (Compare left right) answer p two =
    none_of_two (λ I J. ⊥) (λ b I J status t q e. omega (arith, q.most, e)) (unread (known_text left (behind left)))
    (λ I J fault u. absurd u) answer two p

-- a command that names standard input for two texts is refused
pub refused_twice : {S E : Type 0} (detail : Detail) (out : SinkRun S) (err : SinkRun E) (asked : Asked)
    → names_twice asked ≡ true → IsRefusedRun detail out err twice_line 3 → AskedRun detail out err asked 3
refused_twice detail out err asked twice refused = record { twice = λ _. refused; once = λ once. cc }

-- any other command is run, with the status and the line that its result makes
pub run_once : {F T S E : Type 0} (files : FilesFacts F T) (source : SourceFacts T) (out : SinkFacts S)
    (err : SinkRun E) (asked : Asked) (both_files : F × F) (both_outs : S × S) (done : Result ℕ Stop) (number : ℕ)
    → names_twice asked ≡ false → Does files source out asked both_files both_outs done
    → number ≡ status_of (answer_of done) → Tells err (answer_of done)
    → AskedRun (in_full (files_run files source both_files)) (sink_run out both_outs) err asked number
run_once files source out err asked both_files both_outs done number once does status tells =
    record {
      twice = λ twice. cc;
      once = λ _. record {
        answer = answer_of done;
        status_is = status;
        answers = does.answers;
        performs = does.performs;
        out_after = does.out_after;
        tells = tells;
      };
    }

-- a run that does what the command of its request asks for does what its words ask for
pub ran : {F T S E : Type 0} (words : List (List ℕ)) (files : FilesRun F T) (out : SinkRun S) (err : SinkRun E)
    (command : Command) (number : ℕ) → ((asked : Asked) → plain_asked words ≡ Some asked → asks command ≡ asked)
    → (plain_asked words ≡ None → IsReadByClap words (requests.Command command))
    → AskedRun (in_full files) out err (asks command) number → Ran words (in_full files) out err number
ran words files out err command number plain other asked = record {
  asked = λ a is. rw (plain a is) at asked;
  other = λ none. (requests.Command command, other none, asked);
}
