-- Lemmas that a run for which all is said is also one for which only the answer is said.
use Rattle.std.proofs.Common.{◌≡◌, ◌⊎◌, ℕ, List, Option, None, Some, IfSome, refl, inl, inr}
use Rattle.dn_arc_theory.specs.declared.arc.Form.{Form}
use Rattle.dn_command.specs.Commands.{Asked, Show, Check, Canon, Compare, asks}
use Rattle.dn_command.specs.declared.request.Request.{Request}
use Rattle.dn_command.specs.declared.request.Request.TheVariants as requests
use Rattle.dn_host.specs.declared.files.FilesFault.{FilesFault}
use Rattle.dn_host.specs.declared.files.FilesFault.TheVariants as Files
use Rattle.dn_instance.specs.Instances.{Instance}
use Rattle.dn_instance.specs.Texts.{Reads}
use Rattle.dn_instance.specs.declared.companion.CompanionFault.{CompanionFault}
use Rattle.dn_instance.specs.declared.refusal.Refusal.{Refusal}
use Rattle.dn_instance.specs.declared.refusal.Refusal.TheVariants.{Text, Memory, Read, Endless, CountTooLarge}
use Rattle.dn_run.specs.Answers.{Answer, Done, Refused, Unfit, Cut}
use Rattle.dn_run.specs.Details.{Detail}
use Rattle.dn_run.specs.State.Briefs.{in_brief, known_text}
use Rattle.dn_run.specs.FilesRuns.{FilesRun, in_full, text_asked}
use Rattle.dn_run.specs.Outcomes.{IsRefusedAs, OnText, OnTwoTexts, RanOn, RanOnSome, RanOnTwo}
use Rattle.dn_run.specs.Runs.{IsRefusedRun, Performs}
use Rattle.dn_run.specs.Streams.{SinkRun}
use Rattle.dn_run.specs.Texts.{AskedText, IsRefusedCanon, IsRefusedCopy, IsRefusedText, unopened}
use Rattle.dn_run.specs.Words.{AskedRun, Ran, RequestRun}
use Rattle.dn_run.proofs.OutcomeLaws.{by_behind}

-- a text, of which only the bytes are said
abbrev known : AskedText → AskedText
known text = known_text text.name text.behind

-- a reason to refuse a text is one if only the bytes are said, and so is that the files did not hand it out
text_more : (text : AskedText) (b : List ℕ) (e : Refusal) → IsRefusedText text b e → IsRefusedText (known text) b e
text_more text b (Text place code) h = h
text_more text b Memory h = tt
text_more text b Read h = tt
text_more text b Endless h = tt
text_more text b _ h = h

text_unopened : (text : AskedText) (b : List ℕ) (fault : FilesFault) → IsRefusedText (known text) b (unopened fault)
text_unopened text b Files.Device = tt
text_unopened text b Files.Memory = tt

copy_more : (text : AskedText) (b : List ℕ) (e : Refusal) → IsRefusedCopy text b e → IsRefusedCopy (known text) b e
copy_more text b Memory h = inl tt
copy_more text b e h = text_more text b e h

copy_unopened : (text : AskedText) (b : List ℕ) (fault : FilesFault) → IsRefusedCopy (known text) b (unopened fault)
copy_unopened text b Files.Device = tt
copy_unopened text b Files.Memory = inl tt

canon_more : (form : Form) (text : AskedText) (b : List ℕ) (e : Refusal) → IsRefusedCanon form text b e
    → IsRefusedCanon form (known text) b e
canon_more form text b CountTooLarge h = h
canon_more form text b e h = text_more text b e h

canon_unopened : (form : Form) (text : AskedText) (b : List ℕ) (fault : FilesFault)
    → IsRefusedCanon form (known text) b (unopened fault)
canon_unopened form text b Files.Device = tt
canon_unopened form text b Files.Memory = tt

always : {X : Type 0} (P : X → Type 0) (o : Option X) → ((x : X) → P x) → IfSome o P
always P None h = tt
always P (Some x) h = h x

module _ {S : Type 0} (Puts : List ℕ → Instance → ℕ → List ℕ → Type 0) (Unfits : Instance → CompanionFault → Type 0)
    (Refuses Brief : List ℕ → Refusal → Type 0) (text : AskedText) (out : SinkRun S)
    (more : (b : List ℕ) (e : Refusal) → Refuses b e → Brief b e)
    (not_opened : (b : List ℕ) (fault : FilesFault) → Brief b (unopened fault)) where
  ran_on : (b : List ℕ) (answer : Answer) → RanOn Puts Unfits Refuses text.name out b answer
      → RanOn Puts Unfits Brief text.name out b answer
  ran_on b (Refused of refusal) h = (h.0, more b refusal h.1)
  ran_on b (Done status) h = h
  ran_on b (Unfit of fault) h = h
  ran_on b Cut h = h

  ran_on_some : (answer : Answer) → RanOnSome Puts Unfits Refuses text.name out answer
      → RanOnSome Puts Unfits Brief text.name out answer
  ran_on_some (Refused of refusal) h = h
  ran_on_some (Done status) h = h
  ran_on_some (Unfit of fault) h = h
  ran_on_some Cut h = h

  -- what a command has done with one text
  pub on_known : (answer : Answer) → OnText Puts Unfits Refuses text out answer
      → OnText Puts Unfits Brief (known text) out answer
  on_known answer h = record {
    not_handed = tt;
    failed = λ _ _. tt;
    handed = λ _. by_fault text.fault h.not_handed h.handed;
    some = ran_on_some answer h.some;
  }
    where
      by_fault : (fault : Option FilesFault) → IfSome fault (λ f. answer ≡ Refused text.name (unopened f))
          → (fault ≡ None → IfSome text.behind (λ b. RanOn Puts Unfits Refuses text.name out b answer))
          → IfSome text.behind (λ b. RanOn Puts Unfits Brief text.name out b answer)
      by_fault None none handed = by_behind text.behind (λ b _. ran_on b answer) (handed refl)
      by_fault (Some f) is handed = rw is (always _ text.behind (λ b. (refl, not_opened b f)))

module _ {S : Type 0} (Puts : List ℕ → Instance → Instance → ℕ → List ℕ → Type 0)
    (Unfits : Instance → Instance → CompanionFault → Type 0) (Refuses Brief : List ℕ → Refusal → Type 0)
    (left right : AskedText) (out : SinkRun S) (more : (b : List ℕ) (e : Refusal) → Refuses b e → Brief b e)
    (not_opened : (b : List ℕ) (fault : FilesFault) → Brief b (unopened fault)) where
  abbrev Right : AskedText → Instance → List ℕ → Answer → Type 0
  Right text I b answer = OnText (λ c J. Puts b I J) (Unfits I) (IsRefusedText text) text out answer

  abbrev Left : (List ℕ → Refusal → Type 0) → AskedText → Answer → List ℕ → Type 0
  Left Refuses text answer b =
      IsRefusedAs Refuses left.name b answer ⊎ ((I : Instance) × Reads b I × Right text I b answer)

  ran_on_two : (answer : Answer) → RanOnTwo Puts Unfits (IsRefusedText right) right.name out answer
      → RanOnTwo Puts Unfits (IsRefusedText (known right)) right.name out answer
  ran_on_two (Refused of refusal) h = h
  ran_on_two (Done status) h = h
  ran_on_two (Unfit of fault) h = h
  ran_on_two Cut h = h

  -- what a command has done with two texts
  pub on_two_known : (answer : Answer) → OnTwoTexts Puts Unfits Refuses left right out answer
      → OnTwoTexts Puts Unfits Brief (known left) (known right) out answer
  on_two_known answer h = record {
    not_handed = tt;
    handed = λ _. by_fault left.fault h.not_handed h.handed;
    some = ran_on_two answer h.some;
  }
    where
      left_known : (b : List ℕ) → Left Refuses right answer b → Left Brief (known right) answer b
      left_known b (inl (e, is, r)) = inl (e, is, more b e r)
      left_known b (inr (I, reads, on)) =
          inr (I, reads, on_known _ _ _ _ right out (text_more right) (text_unopened right) answer on)

      by_fault : (fault : Option FilesFault) → IfSome fault (λ f. answer ≡ Refused left.name (unopened f))
          → (fault ≡ None → IfSome left.behind (Left Refuses right answer))
          → IfSome left.behind (Left Brief (known right) answer)
      by_fault None none handed = by_behind left.behind (λ b _. left_known b) (handed refl)
      by_fault (Some f) is handed = always _ left.behind (λ b. inl (unopened f, is, not_opened b f))

module _ {F T S E : Type 0} (files : FilesRun F T) (out : SinkRun S) (err : SinkRun E) where
  abbrev brief : Detail
  brief = in_brief (files.facts.behind files.old)

  performs : (asked : Asked) (answer : Answer) → Performs (in_full files) out asked answer
      → Performs brief out asked answer
  performs (Show name) answer p =
      let text = text_asked files files.old files.new name in
      on_known _ _ _ _ text out (text_more text) (text_unopened text) answer p.means
  performs (Check name None) answer p =
      let text = text_asked files files.old files.new name in
      on_known _ _ _ _ text out (copy_more text) (copy_unopened text) answer p.means
  performs (Check name (Some companion)) answer p =
      let left = text_asked files files.old p.mid name in
      on_two_known _ _ _ _ left (text_asked files p.mid files.new companion) out (copy_more left) (copy_unopened left)
      answer p.means
  performs (Canon name form) answer p =
      let text = text_asked files files.old files.new name in
      on_known _ _ _ _ text out (canon_more form text) (canon_unopened form text) answer p.means
  performs (Compare name other) answer p =
      let left = text_asked files files.old p.mid name in
      on_two_known _ _ _ _ left (text_asked files p.mid files.new other) out (text_more left) (text_unopened left)
      answer p.means

  refused : (line : List ℕ) (number : ℕ) → IsRefusedRun (in_full files) out err line number
      → IsRefusedRun brief out err line number
  refused line number r =
      record { status_is = r.status_is; none_asked = tt; out_stays = r.out_stays; tells = r.tells }

  asked_brief : (asked : Asked) (number : ℕ) → AskedRun (in_full files) out err asked number
      → AskedRun brief out err asked number
  asked_brief asked number r = record {
    twice = λ twice. refused _ number (r.twice twice);
    once = λ once.
        let run = r.once once in
        record {
          answer = run.answer;
          status_is = run.status_is;
          answers = run.answers;
          performs = performs asked run.answer run.performs;
          out_after = run.out_after;
          tells = run.tells;
        };
  }

  request_brief : (request : Request) (number : ℕ) → RequestRun (in_full files) out err request number
      → RequestRun brief out err request number
  request_brief (requests.Command command) number r = asked_brief (asks command) number r
  request_brief (requests.Print text) number r = (r.0, tt)
  request_brief requests.Bad number r = refused _ number r
  request_brief requests.Memory number r =
      record { status_is = r.status_is; none_asked = tt; out_stays = r.out_stays; tells = r.tells }

  -- what a run does for its words
  pub ran_brief : (words : List (List ℕ)) (number : ℕ) → Ran words (in_full files) out err number
      → Ran words brief out err number
  ran_brief words number r = record {
    asked = λ asked plain. asked_brief asked number (r.asked asked plain);
    other = λ none. let (request, is, run) = r.other none in (request, tt, request_brief request number run);
  }
