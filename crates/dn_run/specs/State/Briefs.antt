-- A run of which only the answer is said.
use Rattle.std.specs.Prelude.{ℕ, List, Option, None}
use Rattle.dn_run.specs.Details.{Detail}
use Rattle.dn_run.specs.Texts.{AskedText}

-- the text of this name with these bytes, if they are known, of which nothing else is said
abbrev pub known_text : List ℕ → Option (List ℕ) → AskedText
known_text name behind = record {
  name = name;
  behind = behind;
  fault = None;
  HasFailed = Unit {0};
  IsUnread = λ b. Unit {0};
  IsEndless = λ b. Unit {0};
  IsOutOfMemory = λ b. Unit {0};
  LacksCopy = λ b. Unit {0};
}

-- only the answer is said, for texts of which these bytes are behind their names before the run, if they are known
abbrev pub in_brief : (List ℕ → Option (List ℕ)) → Detail
in_brief behind = record {
  OneAsked = λ name Means. Means (known_text name (behind name));
  TwoAsked = λ left right answer Means. Means (known_text left (behind left)) (known_text right (behind right));
  NoneAsked = Unit {0};
  IsRequest = λ words request. Unit {0};
}
