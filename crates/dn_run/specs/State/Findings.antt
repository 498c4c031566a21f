-- What `check` and `compare` put for texts that were read.
use Rattle.std.specs.Prelude.{◌≤◌, ℕ, List}
use Rattle.std.specs.Io.KnownBytes.{Appends}
use Rattle.dn_sink.specs.Puts.{PutsPrefix}
use Rattle.dn_instance.specs.declared.verdict.Verdict.{Verdict}
use Rattle.dn_instance.specs.declared.verdict.Verdict.TheVariants.{Same}
use Rattle.dn_run.specs.Answers.{Answer, Done, Cut}
use Rattle.dn_run.specs.Streams.{SinkRun}

-- the answer is done, with status 0 or 1, or `Cut`
abbrev pub IsFound : Answer → Type 0
IsFound (Done status) = status ≤ 1
IsFound Cut = Unit {0}
IsFound _ = ⊥

-- `out` took a text that `Puts` allows with the status of the answer; or the answer is `Cut`, and `out` took a prefix
-- of a text that `Puts` allows and has failed
abbrev pub PutsFinding : {S : Type 0} → (ℕ → List ℕ → Type 0) → SinkRun S → Answer → Type 0
PutsFinding Puts out (Done status) =
    (t : List ℕ) × Puts status t × Appends (out.facts.taken out.old) (out.facts.taken out.new) t
PutsFinding Puts out Cut =
    (status : ℕ) × (t : List ℕ) × Puts status t × PutsPrefix out.facts out.old out.new t
PutsFinding Puts out _ = ⊥

-- the exit status of a comparison: 0 if nothing differs, and otherwise 1
abbrev pub verdict_status : Verdict → ℕ
verdict_status Same = 0
verdict_status _ = 1
