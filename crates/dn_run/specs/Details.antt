-- How much is said of the texts that a run asks for, and of the request that it reads (this project's profile).
use Rattle.std.specs.Prelude.{ℕ, List}
use Rattle.dn_command.specs.declared.request.Request.{Request}
use Rattle.dn_run.specs.Answers.{Answer}
use Rattle.dn_run.specs.Texts.{AskedText}

-- what is said of a run besides its answer
pub record Detail : Type 1 where
  -- the run asked for one text, which has this name, and this holds of it
  pub OneAsked : List ℕ → (AskedText → Type 0) → Type 0
  -- the run asked for a left and a right text of these names, as far as this answer tells, and this holds of them
  pub TwoAsked : List ℕ → List ℕ → Answer → (AskedText → AskedText → Type 0) → Type 0
  -- the run asked for no text
  pub NoneAsked : Type 0
  -- this request is right for these words, which are not of a plain form
  pub IsRequest : List (List ℕ) → Request → Type 0
