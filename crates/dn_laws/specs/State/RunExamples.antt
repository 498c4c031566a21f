-- Worked runs, over sinks that keep all bytes and never fail.
use Rattle.std.specs.Prelude.{◌≡◌, ◌⊎◌, ℕ, List, [], ◌∷◌, Option, Some, cond, codes, false, true}
use Rattle.std.specs.Str.{bytes_eq}
use Rattle.dn_sink.specs.Sinks.{SinkFacts}
use Rattle.dn_run.specs.Statuses.{RanPlain}
use Rattle.dn_run.specs.Streams.{SinkRun, sink_run}

-- a sink is the list of the bytes that it took
abbrev pub kept : SinkFacts (List ℕ)
kept = record { taken = λ bytes. Some bytes; has_failed = λ bytes. false; is_flushed = λ bytes. true }

-- a sink that took these bytes in a run
abbrev pub took : List ℕ → SinkRun (List ℕ)
took bytes = sink_run kept ([], bytes)

-- a run with these words, after the program's name, over texts with these bytes behind their names
abbrev pub RunOf : List (List ℕ) → (List ℕ → Option (List ℕ)) → List ℕ → List ℕ → ℕ → Type 0
RunOf words behind out err status = RanPlain (codes "dnorm" ∷ words) behind (took out) (took err) status

-- the run ends with this status and these bytes on `out` and `err`; or it ends with status 4
abbrev pub Gives : ℕ → List ℕ → List ℕ → List ℕ → List ℕ → ℕ → Type 0
Gives number to_out to_err out err status =
    ((status ≡ number) × (out ≡ to_out) × (err ≡ to_err)) ⊎ (status ≡ 4)

-- the bytes of two texts, by their names
abbrev pub two_texts : List ℕ → List ℕ → List ℕ → List ℕ → Option (List ℕ)
two_texts left b c name = cond (bytes_eq name left) (Some b) (Some c)
