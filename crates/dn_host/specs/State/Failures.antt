-- When a read of a stream whose interrupted reads are retried can fail, and when opening the text of a name can.
use Rattle.dn_host.specs.Streams.{FailsAtLast, StreamFacts}
use Rattle.std.specs.Prelude.{◌≡◌, ◌⊎◌, ℕ, List, false, codes}
use Rattle.std.specs.Str.{bytes_eq}
use Rattle.std.specs.declared.io.ErrorKind.{ErrorKind}
use Rattle.std.specs.declared.io.ErrorKind.TheVariants.{OutOfMemory}
use Rattle.dn_host.specs.Openers.{OpenerFacts}

-- the description of a stream whose interrupted reads are retried
abbrev pub retrying : {S : Type 0} → StreamFacts S → StreamFacts S
retrying facts = record { gives = facts.gives; Fails = FailsAtLast facts }

-- opening the text of a name can fail with an error of this kind: memory can run out, and a file can fail to open
abbrev pub MayFail : {O : Type 0} → OpenerFacts O → O → List ℕ → ErrorKind → Type 0
MayFail facts o name kind = (kind ≡ OutOfMemory) ⊎ ((bytes_eq name (codes "-") ≡ false) × facts.Fails o name kind)
