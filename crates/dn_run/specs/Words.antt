-- What a run does for a line of words (this project's profile).
use Rattle.std.specs.Prelude.{◌≡◌, ◌⊎◌, ℕ, List, Some, None, true, false, codes, string_bytes}
use Rattle.std.specs.Io.KnownBytes.{Appends}
use Rattle.dn_instance.specs.declared.refusal.Refusal.TheVariants.{Memory}
use Rattle.dn_sink.specs.Puts.{PutsPrefix}
use Rattle.dn_command.specs.Commands.{Asked, asks, names_twice, plain_asked}
use Rattle.dn_command.specs.declared.request.Request.{Request}
use Rattle.dn_command.specs.declared.request.Request.TheVariants as requests
use Rattle.dn_report.specs.FaultLines.{fault_line}
use Rattle.dn_run.specs.Answers.{Answer, Done, Cut, OutAfter, Tells, status_of}
use Rattle.dn_run.specs.Details.{Detail}
use Rattle.dn_run.specs.Runs.{CommandRun, IsRefusedRun}
use Rattle.dn_run.specs.Streams.{SinkRun, TakesLine}

-- the line for words that are no command
abbrev pub bad_command_line : List ℕ
bad_command_line = codes "dnorm: bad command line\n"

-- the line for words that name standard input for two texts
abbrev pub twice_line : List ℕ
twice_line = codes "dnorm: standard input named twice\n"

-- what a run does for a command. If the command names standard input for two texts, the run is refused; otherwise the
-- command is run
pub record AskedRun {S E : Type 0} (detail : Detail) (out : SinkRun S) (err : SinkRun E) (asked : Asked) (number : ℕ)
    : Type 0 where
  pub twice : names_twice asked ≡ true → IsRefusedRun detail out err twice_line number
  pub once : names_twice asked ≡ false → CommandRun detail out err asked number

-- the answer is done with status 0, and `out` took this text; or the answer is `Cut`, and `out` took a prefix of the
-- text and has failed
abbrev pub PutsAll : {S : Type 0} → SinkRun S → List ℕ → Answer → Type 0
PutsAll out t answer = ((answer ≡ Done 0) × Appends (out.facts.taken out.old) (out.facts.taken out.new) t)
    ⊎ ((answer ≡ Cut) × PutsPrefix out.facts out.old out.new t)

-- what a run does that prints this text: it puts the text on `out`, which passes it on, and the status is 0; or `out`
-- has failed, the status is 4, and the run puts the line of this failure on `err`
pub record PrintsText {S E : Type 0} (t : List ℕ) (out : SinkRun S) (err : SinkRun E) (number : ℕ) : Type 0 where
  pub answer : Answer
  pub status_is : number ≡ status_of answer
  pub puts : PutsAll out t answer
  pub out_after : OutAfter out answer
  pub tells : Tells err answer

-- what a run does if memory runs out when it reads its words: the status is 4, the run puts the line of this refusal on
-- `err` and asks for no text, and `out` is unchanged
pub record LacksMemory {S E : Type 0} (detail : Detail) (out : SinkRun S) (err : SinkRun E) (number : ℕ) : Type 0 where
  pub status_is : number ≡ 4
  pub none_asked : detail.NoneAsked
  pub out_stays : out.new ≡ out.old
  pub tells : TakesLine err (fault_line (codes "dnorm") Memory)

-- what a run does for a request: it runs the command; prints the text, and asks for none; refuses the words; or ends
-- because memory ran out
abbrev pub RequestRun : {S E : Type 0} → Detail → SinkRun S → SinkRun E → Request → ℕ → Type 0
RequestRun detail out err (requests.Command command) number = AskedRun detail out err (asks command) number
RequestRun detail out err (requests.Print text) number =
    PrintsText (string_bytes text) out err number × detail.NoneAsked
RequestRun detail out err requests.Bad number = IsRefusedRun detail out err bad_command_line number
RequestRun detail out err requests.Memory number = LacksMemory detail out err number

-- what a run does for these words, the program's name first. If they are a plain form of a command, it runs that
-- command. For other words it does what some request asks for, which `detail` may say is right for them
pub record Ran {S E : Type 0} (words : List (List ℕ)) (detail : Detail) (out : SinkRun S) (err : SinkRun E)
    (number : ℕ) : Type 0 where
  pub asked : (asked : Asked) → plain_asked words ≡ Some asked → AskedRun detail out err asked number
  pub other : plain_asked words ≡ None → (request : Request) × detail.IsRequest words request
      × RequestRun detail out err request number
