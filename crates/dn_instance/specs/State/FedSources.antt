-- A reader that has read all that a source gives.
use Rattle.std.specs.Prelude.{◌≡◌, ℕ, List, None}
use Rattle.std.specs.Io.KnownBytes.{Consumes, IsAtEnd}
use Rattle.dn_line.specs.Sources.{SourceFacts}
use Rattle.dn_instance.specs.declared.reader.Reader.{Reader}
use Rattle.dn_instance.specs.State.ReaderResults.{refusal_of}
use Rattle.dn_instance.specs.State.ReaderStates.{ReaderAt}

-- the source has given these bytes and is at its end; the reader has read them, and has no refusal
pub record IsFedAll {S : Type 0} (source : SourceFacts S) (old new : S) (r : Reader) (given : List ℕ) : Type 0 where
  pub gave : Consumes (source.gives old) (source.gives new) given
  pub at_end : IsAtEnd (source.gives new)
  pub read : ReaderAt r given
  pub fine : refusal_of r ≡ None
