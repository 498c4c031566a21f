-- What a read of a stream does.
use Rattle.std.specs.Prelude.{ℕ, List, Result, IfErr}
use Rattle.std.specs.Io.{ReadsAtMost}
use Rattle.std.specs.Io.KnownBytes.{ReadConsumes}
use Rattle.std.specs.IoError.{error_kind}
use Rattle.std.specs.declared.io.Error.{Error}
use Rattle.dn_host.specs.Streams.{StreamFacts}

-- what a read does: it gives the next bytes, and none only at the end or if there is no room; or it fails, where it
-- can, and gives none
pub record ReadsStream {S : Type 0} (facts : StreamFacts S) (old new : S) (into : List ℕ) (result : Result ℕ Error)
    : Type 0 where
  pub bound : ReadsAtMost result into
  pub bytes : ReadConsumes (facts.gives old) (facts.gives new) result into
  pub fails : IfErr result (λ e. facts.Fails old (error_kind e) new)
