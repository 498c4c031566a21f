-- How a stream of bytes describes itself, and when a read of it has failed (this project's profile).
use Rattle.std.specs.Prelude.{◌≡◌, ◌≢◌, ◌⊎◌, ℕ, ◌+◌, ◌-◌, ◌^◌, List, Bool, true, false, Option}
use Rattle.std.specs.declared.io.ErrorKind.{ErrorKind}
use Rattle.std.specs.declared.io.ErrorKind.TheVariants.{Interrupted}

-- the description of a stream of type S
pub record StreamFacts (S : Type 0) : Type 1 where
  -- the bytes that it still gives, if they are known
  pub gives : S → Option (List ℕ)
  -- whether a read can fail with an error of this kind and change the first state of the stream to the second
  pub Fails : S → ErrorKind → S → Type 0

-- n interrupted reads changed the first state of the stream to the second
pub data Interrupts {S : Type 0} (facts : StreamFacts S) (old : S) : ℕ → S → Type 0 where
  none : Interrupts facts old 0 old
  more : (n : ℕ) (mid new : S) → Interrupts facts old n mid → facts.Fails mid Interrupted new
      → Interrupts facts old (n + 1) new

-- after n interrupted reads, one failed that was not interrupted; or 2^64-1 reads were interrupted
pub record FailsAtLast {S : Type 0} (facts : StreamFacts S) (old : S) (kind : ErrorKind) (new : S) : Type 0 where
  pub n : ℕ
  pub mid : S
  pub interrupts : Interrupts facts old n mid
  pub last : ((kind ≢ Interrupted) × facts.Fails mid kind new) ⊎ ((n ≡ 2 ^ 64 - 1) × (new ≡ mid) × (kind ≡ Interrupted))

-- a stream, and whether a read of it has failed
pub record ReadStream (S : Type 0) : Type 0 where
  pub stream : S
  pub failed : Bool

-- what a pull does to a source over a stream: if a read has failed, it does not read; and a read has failed afterwards
-- only where it can, after all retries
pub record PullsStream {S : Type 0} (facts : StreamFacts S) (old new : ReadStream S) : Type 0 where
  pub stays : old.failed ≡ true → new ≡ old
  pub fails : old.failed ≡ false → new.failed ≡ true → (kind : ErrorKind) × FailsAtLast facts old.stream kind new.stream
