-- A source that gives one byte at each pull.
use Rattle.std.specs.Prelude.{◌≡◌, ℕ, List, ◌∷◌, Some, false}
use Rattle.dn_line.specs.Sources.{SourceFacts}

-- the source is the list of the bytes that it still gives
abbrev pub bytewise : SourceFacts (List ℕ)
bytewise = record {
  gives = λ bytes. Some bytes;
  has_failed = λ bytes. false;
  Pulls = λ old new. (byte : ℕ) × (old ≡ byte ∷ new);
}
