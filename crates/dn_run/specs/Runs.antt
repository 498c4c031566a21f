-- What a run does for a command (this project's profile).
use Rattle.std.specs.Prelude.{◌≡◌, ℕ, List, None, Some}
use Rattle.dn_command.specs.Commands.{Asked, Show, Check, Canon, Compare}
use Rattle.dn_run.specs.Answers.{Answer, IsAnswerTo, OutAfter, Tells, status_of}
use Rattle.dn_run.specs.Details.{Detail}
use Rattle.dn_run.specs.Findings.{Never, PutsCanon, PutsChecked, PutsCompared, PutsFit, PutsShown, Unfits}
use Rattle.dn_run.specs.Outcomes.{OnText, OnTwoTexts}
use Rattle.dn_run.specs.Streams.{SinkRun, TakesLine}
use Rattle.dn_run.specs.Texts.{IsRefusedText, IsRefusedCanon, IsRefusedCopy}

-- what a command does with the texts that it asks for
abbrev pub Performs : {S : Type 0} → Detail → SinkRun S → Asked → Answer → Type 0
Performs detail out (Show name) answer =
    detail.OneAsked name (λ text. OnText PutsShown (λ _. Never) (IsRefusedText text) text out answer)
Performs detail out (Check name None) answer =
    detail.OneAsked name (λ text. OnText (PutsChecked None) (λ _. Never) (IsRefusedCopy text) text out answer)
Performs detail out (Check name (Some companion)) answer =
    detail.TwoAsked name companion answer
    (λ left right. OnTwoTexts PutsFit Unfits (IsRefusedCopy left) left right out answer)
Performs detail out (Canon name form) answer =
    detail.OneAsked name (λ text. OnText (PutsCanon form) (λ _. Never) (IsRefusedCanon form text) text out answer)
Performs detail out (Compare left right) answer =
    detail.TwoAsked left right answer
    (λ l r. OnTwoTexts (λ _. PutsCompared) (λ _ _. Never) (IsRefusedText l) l r out answer)

-- what the run of a command does: one answer gives the exit status, what the command has done with its texts, and what
-- it has done to `out` and `err`; and it is an answer that the command may have
pub record CommandRun {S E : Type 0} (detail : Detail) (out : SinkRun S) (err : SinkRun E) (asked : Asked) (number : ℕ)
    : Type 0 where
  pub answer : Answer
  pub status_is : number ≡ status_of answer
  pub answers : IsAnswerTo asked answer
  pub performs : Performs detail out asked answer
  pub out_after : OutAfter out answer
  pub tells : Tells err answer

-- a run that is refused because of its words: the exit status is 3, the run puts this line on `err` and asks for no
-- text, and `out` is unchanged
pub record IsRefusedRun {S E : Type 0} (detail : Detail) (out : SinkRun S) (err : SinkRun E) (line : List ℕ)
    (number : ℕ) : Type 0 where
  pub status_is : number ≡ 3
  pub none_asked : detail.NoneAsked
  pub out_stays : out.new ≡ out.old
  pub tells : TakesLine err line
