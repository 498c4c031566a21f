-- The sinks `out` and `err` of a run (this project's profile).
use Rattle.std.specs.Prelude.{ℕ, List, Result, OnOk, IsTrue}
use Rattle.dn_sink.specs.Puts.{Puts}
use Rattle.dn_sink.specs.Sinks.{SinkFacts}
use Rattle.dn_sink.specs.declared.sink.SinkFault.{SinkFault}

-- a sink of a run: how it describes itself, and the sink before and after the run
pub record SinkRun (S : Type 0) : Type 0 where
  pub facts : SinkFacts S
  pub old : S
  pub new : S

-- the sink with this description: the first before the run, and the second after it
abbrev pub sink_run : {S : Type 0} → SinkFacts S → S × S → SinkRun S
sink_run facts sink = record { facts = facts; old = sink.0; new = sink.1 }

-- the sink took this line and has passed it on; or it has failed, and took the line or a prefix of it
pub record TakesLine {S : Type 0} (err : SinkRun S) (line : List ℕ) : Type 0 where
  pub result : Result (Unit {0}) SinkFault
  pub puts : Puts err.facts err.old err.new line result
  pub flushed : OnOk result (IsTrue (err.facts.is_flushed err.new))
