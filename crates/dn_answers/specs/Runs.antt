-- What a run has written that has the answers of its input (this project's profile).
use Rattle.std.specs.Prelude.{ℕ, ◌-◌, ◌<◌, ◌^◌, List, length, Option}
use Rattle.std.specs.Io.KnownBytes.{Appends}
use Rattle.dn_line.specs.Pieces.{lines}
use Rattle.dn_instance.specs.Instances.{Instance}
use Rattle.dn_instance.specs.Texts.{Reads}
use Rattle.dn_answers.specs.Answers.{HasAnswersOf, HaveSameAnswers}

-- b reads as an instance, and a sink took a text that, if it has at most 2^63-2 lines, reads as exactly one instance,
-- which has the same answers
pub record WroteAnswersOf (old new : Option (List ℕ)) (b : List ℕ) : Type 0 where
  pub text : List ℕ
  pub took : Appends old new text
  pub read : Instance
  pub reads : Reads b read
  pub answers : length (lines text) < 2 ^ 63 - 1 → HasAnswersOf read text

-- two texts read as instances that have the same answers
pub record PosedSameAnswers (b c : List ℕ) : Type 0 where
  pub left : Instance
  pub right : Instance
  pub reads_left : Reads b left
  pub reads_right : Reads c right
  pub same : HaveSameAnswers left right
