-- How a sink of bytes describes itself (this project's profile).
use Rattle.std.specs.Prelude.{ℕ, List, Bool, Option}

-- the description of a sink of type S
pub record SinkFacts (S : Type 0) : Type 0 where
  -- the bytes that it has taken, if they are known
  pub taken : S → Option (List ℕ)
  -- whether it has failed
  pub has_failed : S → Bool
  -- whether it has passed on all bytes that it has taken
  pub is_flushed : S → Bool
