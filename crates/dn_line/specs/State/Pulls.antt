-- How one pull changes a source.
use Rattle.std.specs.Prelude.{◌≡◌, ℕ, ◌≤◌, List, [], length, Result, IsTrue, IsErr, OnOk, OnErr}
use Rattle.std.specs.Io.KnownBytes.{Consumes, IsAtEnd, Keeps}
use Rattle.dn_line.specs.Sources.{SourceFacts}
use Rattle.dn_line.specs.declared.source.SourceFault.{SourceFault}

module _ {S : Type 0} (source : SourceFacts S) (old new : S) where
  -- the piece has at most `most` bytes, and they are the next that the source gives, if these are known; it is empty
  -- only at the end, and whether the source has failed does not change
  pub record Pulled (most : ℕ) (piece : List ℕ) : Type 0 where
    pub bound : length piece ≤ most
    pub bytes : Consumes (source.gives old) (source.gives new) piece
    pub end : piece ≡ [] → IsAtEnd (source.gives new)
    pub fine : source.has_failed new ≡ source.has_failed old

  -- the source gave no bytes, and has failed
  pub record Unread : Type 0 where
    pub bytes : Keeps (source.gives old) (source.gives new)
    pub failed : IsTrue (source.has_failed new)

  -- the effect of a pull; once the source has failed, each later pull returns a fault
  pub record Pull (most : ℕ) (piece : List ℕ) (result : Result (Unit {0}) SourceFault) : Type 0 where
    pub ok : OnOk result (Pulled most piece)
    pub err : OnErr result Unread
    pub again : IsTrue (source.has_failed old) → IsErr result
    pub pulls : source.Pulls old new
