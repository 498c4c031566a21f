-- How a device that takes bytes describes itself, what a write and a flush of it do, and how interrupted writes are
-- retried (this project's profile).
use Rattle.std.specs.Prelude.{ℕ, List, Option, Result, MatchResult}
use Rattle.std.specs.Io.{WritesAtMost}
use Rattle.std.specs.Io.KnownBytes.{Keeps, WriteAppends}
use Rattle.std.specs.IoError.{error_kind}
use Rattle.std.specs.declared.io.Error.{Error}
use Rattle.std.specs.declared.io.ErrorKind.{ErrorKind}
use Rattle.dn_host.specs.Streams.{FailsAtLast, Interrupts, StreamFacts}

-- the description of a device of type D
pub record DeviceFacts (D : Type 0) : Type 1 where
  -- the bytes that it has taken, if they are known
  pub taken : D → Option (List ℕ)
  -- whether a write of these bytes can take so many of them, and change the first state of the device to the second
  pub Takes : D → List ℕ → ℕ → D → Type 0
  -- whether a write can fail with an error of this kind, and change the device so
  pub Fails : D → ErrorKind → D → Type 0
  -- whether a flush can succeed, and change the device so
  pub Flushes : D → D → Type 0
  -- whether a flush can fail with an error of this kind, and change the device so
  pub FailsToFlush : D → ErrorKind → D → Type 0

module _ {D : Type 0} (facts : DeviceFacts D) (old new : D) where
  -- what a write does: it takes bytes from the beginning of a piece, as the device can; or it fails, where it can
  pub record Writes (piece : List ℕ) (result : Result ℕ Error) : Type 0 where
    pub bound : WritesAtMost result piece
    pub bytes : WriteAppends (facts.taken old) (facts.taken new) result piece
    pub how : MatchResult result (λ n. facts.Takes old piece n new) (λ e. facts.Fails old (error_kind e) new)

  -- what a flush does: it takes no bytes, and succeeds or fails as the device can
  pub record FlushesOnce (result : Result (Unit {0}) Error) : Type 0 where
    pub bytes : Keeps (facts.taken old) (facts.taken new)
    pub how : MatchResult result (λ x. facts.Flushes old new) (λ e. facts.FailsToFlush old (error_kind e) new)

-- a stream whose reads fail as the writes of the device do
abbrev pub failing : {D : Type 0} → DeviceFacts D → StreamFacts D
failing facts = record { gives = facts.taken; Fails = facts.Fails }

-- after some interrupted writes, one took so many of the bytes
pub record TakesAtLast {D : Type 0} (facts : DeviceFacts D) (old : D) (piece : List ℕ) (count : ℕ) (new : D)
    : Type 0 where
  pub n : ℕ
  pub mid : D
  pub interrupts : Interrupts (failing facts) old n mid
  pub last : facts.Takes mid piece count new

-- the description of a device whose interrupted writes are retried
abbrev pub rewriting : {D : Type 0} → DeviceFacts D → DeviceFacts D
rewriting facts = record {
  taken = facts.taken;
  Takes = TakesAtLast facts;
  Fails = FailsAtLast (failing facts);
  Flushes = facts.Flushes;
  FailsToFlush = facts.FailsToFlush;
}
