-- How much of a text a sink has taken (this project's profile).
use Rattle.std.specs.Prelude.{◌≡◌, List, ℕ, [], ◌++◌, IsTrue, MatchResult}
use Rattle.std.specs.Io.KnownBytes.{Appends}
use Rattle.std.specs.declared.result.Result.{Result}
use Rattle.dn_sink.specs.Sinks.{SinkFacts}
use Rattle.dn_sink.specs.declared.sink.SinkFault.{SinkFault}

module _ {S : Type 0} (sink : SinkFacts S) (old new : S) where
  -- the sink took all of the text but the rest `left`, and this did not change whether it has failed
  pub record HasPut (left all : List ℕ) : Type 0 where
    pub put : List ℕ
    pub bytes : Appends (sink.taken old) (sink.taken new) put
    pub whole : put ++ left ≡ all
    pub fine : sink.has_failed new ≡ sink.has_failed old

  -- the sink took a prefix of the text, and has failed
  pub record PutsPrefix (all : List ℕ) : Type 0 where
    pub put : List ℕ
    pub left : List ℕ
    pub bytes : Appends (sink.taken old) (sink.taken new) put
    pub whole : put ++ left ≡ all
    pub failed : IsTrue (sink.has_failed new)

  -- on `Ok` the sink took the whole text; on a fault it took a prefix of the text, and has failed
  abbrev pub Puts : List ℕ → Result (Unit {0}) SinkFault → Type 0
  Puts all result = MatchResult result (λ _. HasPut [] all) (λ _. PutsPrefix all)
