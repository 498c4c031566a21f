-- Lemmas on how a command ends, from the results of reading its texts.
use Rattle.std.proofs.Common.{◌≡◌, ℕ, List, [], Option, Some, None, Result, Ok, Err, IsErrAnd, OnOk, IsTrue, IfSome, refl, inl, inr, append-nil}
use Rattle.std.specs.Io.KnownBytes.{Appends}
use Rattle.dn_instance.specs.State.Helds.{Parsed, IsHeld}
use Rattle.dn_instance.specs.Instances.{Instance}
use Rattle.dn_instance.specs.Texts.{Reads}
use Rattle.dn_instance.specs.declared.companion.CompanionFault.{CompanionFault}
use Rattle.dn_instance.specs.declared.refusal.Refusal.{Refusal}
use Rattle.dn_instance.specs.declared.refusal.Refusal.TheVariants.{Read}
use Rattle.dn_sink.specs.Puts.{HasPut, Puts}
use Rattle.dn_sink.specs.declared.sink.SinkFault.{SinkFault}
use Rattle.dn_command.specs.Commands.{Asked}
use Rattle.dn_host.specs.Takings.{FilesFacts}
use Rattle.dn_line.specs.Sources.{SourceFacts}
use Rattle.dn_run.specs.declared.stop.Stop.{Stop}
use Rattle.dn_run.specs.Answers.{Answer, Done, IsAnswerTo, Refused}
use Rattle.dn_run.specs.FilesRuns.{files_run, in_full}
use Rattle.dn_run.specs.Runs.{Performs}
use Rattle.dn_run.specs.State.CommandRuns.{Does}
use Rattle.dn_run.specs.State.Endings.{IsNamed, stopped}
use Rattle.dn_run.specs.Outcomes.{OnText, OnTwoTexts, RanOn, RanOnSome, RanOnTwo}
use Rattle.dn_run.specs.Streams.{SinkRun, TakesLine, sink_run}
use Rattle.dn_run.specs.Texts.{AskedText, IsRefusedText}
use Rattle.dn_run.specs.State.TextReads.{IsRead, StopsAs}
use Rattle.dn_sink.specs.Sinks.{SinkFacts}

-- a text of which nothing is left to put was appended to what the sink has taken
pub added : {S : Type 0} {sink : SinkFacts S} {old new : S} {t : List ℕ} → HasPut sink old new [] t
    → Appends (sink.taken old) (sink.taken new) t
added h = rw (← h.whole, append-nil) h.bytes

-- a line that was put and passed on, or that a sink failed to take
pub line_taken : {S : Type 0} (err : SinkRun S) (line : List ℕ) (result : Result (Unit {0}) SinkFault)
    → Puts err.facts err.old err.new line result → OnOk result (IsTrue (err.facts.is_flushed err.new))
    → TakesLine err line
line_taken err line result puts flushed = record { result = result; puts = puts; flushed = flushed }

-- an error that `?` passes on
pub passed_on : {X E : Type 0} (r : Result X E) (e : E) → IsErrAnd r (λ y. y ≡ e) → r ≡ Err e
passed_on (Ok x) e h = absurd h
passed_on (Err y) e h = rw h

-- what holds of the result of reading a text holds if the command stops with its name
pub by_name : (Is : Result Parsed Refusal → Type 0) (name : List ℕ) (read : Result Parsed Refusal)
    (result : Result Parsed Stop) → IsNamed name read result → Is read → StopsAs name Is result
by_name Is name (Ok held) (Ok same) e h = rw e h
by_name Is name (Err refusal) (Err stop) e h = (refusal, e, h)
by_name Is name _ _ e h = absurd e

-- a command that stops since a text is refused does this, if it has done nothing to `out`
pub does_refuse : {F T S : Type 0} {files : FilesFacts F T} {source : SourceFacts T} {out : SinkFacts S} {asked : Asked}
    {both : F × F} {sink : S} {name : List ℕ} {refusal : Refusal} (result : Result ℕ Stop) (stop : Stop)
    → result ≡ Err stop → stopped stop ≡ Refused name refusal
    → Performs (in_full (files_run files source both)) (sink_run out (sink, sink)) asked (Refused name refusal)
    → IsAnswerTo asked (Refused name refusal) → Does files source out asked both (sink, sink) result
does_refuse result stop e is performs answers =
    rw e (record { performs = rw is performs; out_after = rw is refl; answers = rw is answers })

-- if P implies Q of what is known, and P holds of it if there is any, so does Q
pub by_behind : {X : Type 0} {P Q : X → Type 0} (behind : Option X) → ((x : X) → behind ≡ Some x → P x → Q x)
    → IfSome behind P → IfSome behind Q
by_behind None f h = tt
by_behind (Some x) f h = f x refl h

module _ {S : Type 0} {Puts : List ℕ → Instance → ℕ → List ℕ → Type 0} {Unfits : Instance → CompanionFault → Type 0}
    {Reading Refuses : List ℕ → Refusal → Type 0} {text : AskedText} {out : SinkRun S} where
  -- if the text was read, `OnText` holds of an answer that is right for the bytes behind its name and for some text
  pub on_held : {held : Parsed} (answer : Answer) → IsRead Reading text (Ok held)
      → (answer ≡ Refused text.name Read → ⊥)
      → ((b : List ℕ) → text.fault ≡ None → text.behind ≡ Some b → (I : Instance) → Reads b I → IsHeld held I
      → RanOn Puts Unfits Refuses text.name out b answer)
      → (b : List ℕ) × RanOn Puts Unfits Refuses text.name out b answer → OnText Puts Unfits Refuses text out answer
  on_held answer h unread ran some = record {
    not_handed = by_behind text.fault (λ f is e. cc) h.not_handed;
    failed = λ _ e. absurd (unread e);
    handed = λ none. by_behind text.behind (λ b e (I, reads, is). ran b none e I reads is) (h.handed none);
    some = as_some answer some;
  }
    where
      as_some : (answer : Answer) → (b : List ℕ) × RanOn Puts Unfits Refuses text.name out b answer
          → RanOnSome Puts Unfits Refuses text.name out answer
      as_some (Refused of e) p = tt
      as_some (Done status) p = p
      as_some _ p = p

  -- if the text was read, `OnText` holds of an answer that is right for each text that reads as an instance that `held`
  -- represents
  pub on_read : {held : Parsed} (answer : Answer) → IsRead Reading text (Ok held)
      → (answer ≡ Refused text.name Read → ⊥) → ((b : List ℕ) (I : Instance) → Reads b I → IsHeld held I
      → RanOn Puts Unfits Refuses text.name out b answer) → OnText Puts Unfits Refuses text out answer
  on_read answer h unread ran =
      let (b, (I, reads, is)) = h.held in
      on_held answer h unread (λ c none e. ran c) (b, ran b I reads is)

  -- if the text is refused, `OnText` holds of the refusal
  pub on_refused : {refusal : Refusal} → IsRead Reading text (Err refusal)
      → ((b : List ℕ) → Reading b refusal → Refuses b refusal)
      → OnText Puts Unfits Refuses text out (Refused text.name refusal)
  on_refused h more = record {
    not_handed = by_behind text.fault (λ f is e. cc) h.not_handed;
    failed = λ fine e. h.failed fine (cc);
    handed = λ none. by_behind text.behind (λ b e refused. (refl, more b refused)) (h.handed none);
    some = tt;
  }

module _ {S : Type 0} {Puts : List ℕ → Instance → Instance → ℕ → List ℕ → Type 0}
    {Unfits : Instance → Instance → CompanionFault → Type 0} {Refuses : List ℕ → Refusal → Type 0}
    {left right : AskedText} {out : SinkRun S} where
  -- if the left text was read, `OnTwoTexts` holds of an answer that is right for the bytes behind the names and for
  -- some two texts
  pub on_left : {held : Parsed} (answer : Answer) → IsRead Refuses left (Ok held)
      → ((b : List ℕ) → left.fault ≡ None → left.behind ≡ Some b → (I : Instance) → Reads b I → IsHeld held I
      → OnText (λ c J. Puts b I J) (Unfits I) (IsRefusedText right) right out answer)
      → (b : List ℕ) × (I : Instance) × Reads b I
      × RanOnSome (λ c J. Puts b I J) (Unfits I) (IsRefusedText right) right.name out answer
      → OnTwoTexts Puts Unfits Refuses left right out answer
  on_left answer h ran some = record {
    not_handed = by_behind left.fault (λ f is e. cc) h.not_handed;
    handed =
        λ none. by_behind left.behind (λ b e (I, reads, is). inr (I, reads, ran b none e I reads is)) (h.handed none);
    some = as_two answer some;
  }
    where
      as_two : (answer : Answer) → (b : List ℕ) × (I : Instance) × Reads b I
          × RanOnSome (λ c J. Puts b I J) (Unfits I) (IsRefusedText right) right.name out answer
          → RanOnTwo Puts Unfits (IsRefusedText right) right.name out answer
      as_two (Refused of e) p = tt
      as_two (Done status) p = p
      as_two _ p = p

  -- if the left text was read, `OnTwoTexts` holds of an answer that is right for each left text that reads as an
  -- instance that `held` represents
  pub on_left_read : {held : Parsed} (answer : Answer) → IsRead Refuses left (Ok held)
      → ((b : List ℕ) (I : Instance) → Reads b I → IsHeld held I
      → OnText (λ c J. Puts b I J) (Unfits I) (IsRefusedText right) right out answer)
      → OnTwoTexts Puts Unfits Refuses left right out answer
  on_left_read answer h ran =
      let (b, (I, reads, is)) = h.held in
      on_left answer h (λ c none e. ran c) (b, I, reads, (ran b I reads is).some)

  -- if the left text is refused, `OnTwoTexts` holds of the refusal
  pub left_refused : {refusal : Refusal} → IsRead Refuses left (Err refusal)
      → OnTwoTexts Puts Unfits Refuses left right out (Refused left.name refusal)
  left_refused {refusal} h = record {
    not_handed = by_behind left.fault (λ f is e. cc) h.not_handed;
    handed = λ none. by_behind left.behind (λ b e refused. inl (refusal, refl, refused)) (h.handed none);
    some = tt;
  }
