-- What a run has done to `out`, by its exit status.
use Rattle.std.specs.Prelude.{◌≡◌, ◌⊎◌, ℕ, IsTrue}
use Rattle.dn_run.specs.Streams.{SinkRun}

-- on 0 and 1 `out` has passed on all that it took, and whether it has failed did not change; on 2 and 3 `out` is
-- unchanged
pub record OutByStatus {S : Type 0} (out : SinkRun S) (status : ℕ) : Type 0 where
  pub flushed : (status ≡ 0) ⊎ (status ≡ 1) → IsTrue (out.facts.is_flushed out.new)
  pub fine : (status ≡ 0) ⊎ (status ≡ 1) → out.facts.has_failed out.new ≡ out.facts.has_failed out.old
  pub refused : (status ≡ 2) ⊎ (status ≡ 3) → out.new ≡ out.old
