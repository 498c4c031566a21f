-- A block, which gathers the lines of a text before a sink takes them.
use Rattle.std.specs.Prelude.{ℕ, ◌+◌, ◌≤◌, List, ◌++◌, length, MatchResult}
use Rattle.std.specs.declared.result.Result.{Result}
use Rattle.dn_canon.specs.declared.block.TheConstants.{LINE, SIZE}
use Rattle.dn_sink.specs.declared.sink.SinkFault.{SinkFault}
use Rattle.dn_sink.specs.Sinks.{SinkFacts}
use Rattle.dn_sink.specs.Puts.{HasPut, PutsPrefix}

-- another line fits into the block: it takes at most LINE bytes, including those that writing its last number may
-- overwrite
abbrev pub HasRoom : List ℕ → Type 0
HasRoom block = length block + LINE ≤ SIZE

-- on `Ok` the sink took the whole text except what the block now holds; on a fault it took a prefix of the text, and
-- has failed
abbrev pub Passes : {S : Type 0} → SinkFacts S → S → S → List ℕ → List ℕ → Result (Unit {0}) SinkFault → Type 0
Passes sink old new block all result =
    MatchResult result (λ _. HasPut sink old new block all) (λ _. PutsPrefix sink old new all)

-- the same of the text that the old block held, followed by this text
abbrev pub Adds : {S : Type 0} → SinkFacts S → S → S → List ℕ → List ℕ → List ℕ → Result (Unit {0}) SinkFault → Type 0
Adds sink old new old_block new_block text result = Passes sink old new new_block (old_block ++ text) result
