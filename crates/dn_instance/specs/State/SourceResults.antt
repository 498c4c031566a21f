-- What reading a source returns, and in which state it leaves the source.
use Rattle.dn_instance.specs.State.Helds.{Parsed}
use Rattle.std.specs.Prelude.{◌≡◌, ◌⊎◌, ℕ, ◌<◌, ◌≤◌, ◌^◌, List, ◌++◌, length, Bool, Option, Some, None, Result, Ok, Err, IfErr, IfSome, IsErrOf, IsTrue}
use Rattle.std.specs.Io.KnownBytes.{Consumes, IsAtEnd}
use Rattle.dn_line.specs.Pieces.{lines}
use Rattle.dn_line.specs.Sources.{SourceFacts}
use Rattle.dn_instance.specs.declared.reader.Reader.{Reader}
use Rattle.dn_instance.specs.declared.refusal.Place.TheVariants as Places
use Rattle.dn_instance.specs.declared.refusal.Refusal.{Refusal}
use Rattle.dn_instance.specs.declared.refusal.Refusal.TheVariants.{Text, Memory, Read, Endless}
use Rattle.dn_instance.specs.Readers.{ended}
use Rattle.dn_instance.specs.State.ReaderResults.{IsRefused, Outcome, refusal_of}
use Rattle.dn_instance.specs.State.ReaderStates.{ReaderAt}
use Rattle.dn_instance.specs.Texts.{IsClean, IsFirstFault}
use Rattle.dn_instance.specs.SourceReads.{AfterPulls, CleanSoFar, PulledBytes, PulledWhileClean, after_pulls}

-- of the text t, all pulls but the last gave `given`, of which no complete line has a fault, the last gave a piece of
-- at most 2^12 bytes, and the source still gives the rest. The LF of the refused line is in this piece
pub record StopsInPiece (t : List ℕ) (left : AfterPulls) (e : Refusal) : Type 0 where
  pub given : List ℕ
  pub piece : List ℕ
  pub rest : List ℕ
  pub whole : t ≡ given ++ (piece ++ rest)
  pub rest_is : left.gives ≡ Some rest
  pub pulled : left.Gave given piece
  pub short : length piece ≤ 2 ^ 12
  pub clean : IsClean (ended given)
  pub refused : IsRefused (length (ended given)) (ended (given ++ piece)) e

-- why a text is refused after all its complete lines: for a fault at its end, or at a last line without an LF
abbrev pub IsRefusedLast : List ℕ → Refusal → Type 0
IsRefusedLast t (Text Places.End code) = IsFirstFault t Places.End code
IsRefusedLast t e = IsRefused (length (ended t)) (lines t) e

-- the source has given all of the text t, no complete line of t has a fault, and the refusal is of the end or of a last
-- line without an LF
pub record StopsAtEnd (t : List ℕ) (new : Option (List ℕ)) (e : Refusal) : Type 0 where
  pub at_end : IsAtEnd new
  pub clean : IsClean (ended t)
  pub refused : IsRefusedLast t e

-- in which state the source of the text t is when the text is refused: after a piece with the LF of the refused line,
-- or at its end
abbrev pub StopsAt : List ℕ → AfterPulls → Refusal → Type 0
StopsAt t left e = StopsInPiece t left e ⊎ StopsAtEnd t left.gives e

-- what reading a source of the text t returns, and how its pulls leave the source. It returns a parsed instance that
-- represents what t reads as, with the source at its end; the first fault of t, or `Memory`, with the source as
-- `StopsAt` says; or `Read`, or `Endless` after at least 2^40 bytes, where no complete line of the bytes given has a
-- fault
abbrev pub SourceOutcome : List ℕ → AfterPulls → Result Parsed Refusal → Type 0
SourceOutcome t left (Ok held) = Outcome t (Ok held) × IsAtEnd left.gives
SourceOutcome t left (Err (Text place code)) = IsFirstFault t place code × StopsAt t left (Text place code)
SourceOutcome t left (Err Memory) = StopsAt t left Memory
SourceOutcome t left (Err Read) = CleanSoFar t left.gives
SourceOutcome t left (Err Endless) = (c : CleanSoFar t left.gives) × (2 ^ 40 ≤ length c.given)
SourceOutcome t left (Err _) = ⊥

-- what reading a source returns, if the bytes of the source are known
abbrev pub ReadsSource : {S : Type 0} → SourceFacts S → S → S → Result Parsed Refusal → Type 0
ReadsSource source old new result =
    IfSome (source.gives old) (λ t. SourceOutcome t (after_pulls source old new) result)

-- how reading leaves a source: the source has failed if the result is `Read`, it has failed if it had failed before,
-- and it was pulled only while no complete line of the bytes given had a fault
pub record SourceLeft {S A : Type 0} (source : SourceFacts S) (old new : S) (result : Result A Refusal) : Type 0 where
  pub read : IsErrOf result Read → IsTrue (source.has_failed new)
  pub stays : IsTrue (source.has_failed old) → IsTrue (source.has_failed new)
  pub pulls : PulledWhileClean source old new

-- of the text t, the source has given bytes that the copy has gained, and it still gives the rest
pub record Copied (t : List ℕ) (new : Option (List ℕ)) (old_copy new_copy : List ℕ) : Type 0 where
  pub given : List ℕ
  pub rest : List ℕ
  pub whole : t ≡ given ++ rest
  pub rest_is : new ≡ Some rest
  pub copy : new_copy ≡ old_copy ++ given

-- of the text t, all pulls but the last gave bytes that the copy has gained, the last gave a piece of 1 to 2^12 bytes
-- that the copy has not gained, and the source still gives the rest. No complete line of the bytes before this piece
-- has a fault
pub record LacksRoom (t : List ℕ) (left : AfterPulls) (old_copy new_copy : List ℕ) : Type 0 where
  pub given : List ℕ
  pub piece : List ℕ
  pub rest : List ℕ
  pub whole : t ≡ given ++ (piece ++ rest)
  pub rest_is : left.gives ≡ Some rest
  pub pulled : left.Gave given piece
  pub some : 0 < length piece
  pub short : length piece ≤ 2 ^ 12
  pub copy : new_copy ≡ old_copy ++ given
  pub clean : IsClean (ended given)

-- what reading a source with a copy returns: the outcome of reading the source, where the copy has gained all bytes
-- given; or `Memory`, where the copy has gained all bytes given but the last piece
abbrev pub CopyOutcome : List ℕ → AfterPulls → List ℕ → List ℕ → Result Parsed Refusal → Type 0
CopyOutcome t left old_copy new_copy (Err Memory) =
    (SourceOutcome t left (Err Memory) × Copied t left.gives old_copy new_copy) ⊎ LacksRoom t left old_copy new_copy
CopyOutcome t left old_copy new_copy result = SourceOutcome t left result × Copied t left.gives old_copy new_copy

-- what reading a source with a copy returns, if the bytes of the source are known
abbrev pub CopiesSource : {S : Type 0} → SourceFacts S → S → S → List ℕ → List ℕ → Result Parsed Refusal → Type 0
CopiesSource source old new old_copy new_copy result =
    IfSome (source.gives old) (λ t. CopyOutcome t (after_pulls source old new) old_copy new_copy result)

-- the parsed instance represents what some text reads as, whether or not the bytes of the source are known
abbrev pub HoldsSome : Parsed → Type 0
HoldsSome held = (t : List ℕ) × Outcome t (Ok held)

-- the parsed instance represents what some text reads as, and the copy has gained this text
abbrev pub HoldsCopied : List ℕ → List ℕ → Parsed → Type 0
HoldsCopied old_copy new_copy held = (t : List ℕ) × Outcome t (Ok held) × (new_copy ≡ old_copy ++ t)

-- pulls changed the source from `old` to `new`, and each of them gave at least one byte; the reader has read the bytes
-- that they gave, and has no refusal
pub record IsFed {S : Type 0} (source : SourceFacts S) (old new : S) (r : Reader) : Type 0 where
  pub given : List ℕ
  pub gave : Consumes (source.gives old) (source.gives new) given
  pub pulls : PulledBytes source old new
  pub stays : IsTrue (source.has_failed old) → IsTrue (source.has_failed new)
  pub read : ReaderAt r given
  pub fine : refusal_of r ≡ None

-- if bytes are kept, the kept bytes have gained these
abbrev pub IsKept : Bool → List ℕ → List ℕ → List ℕ → Type 0
IsKept keeps old new bytes = IsTrue keeps → new ≡ old ++ bytes

-- the parsed instance represents what some text reads as, and this text is kept, if bytes are kept
abbrev pub HoldsKept : Bool → List ℕ → List ℕ → Parsed → Type 0
HoldsKept keeps old new held = (t : List ℕ) × Outcome t (Ok held) × IsKept keeps old new t

-- what reading a source returns that may keep the bytes given: the outcome of reading the source, where all bytes given
-- are kept, if bytes are kept; or `Memory`, where bytes are kept, and all bytes given but the last piece are
abbrev pub KeptOutcome : Bool → List ℕ → AfterPulls → List ℕ → List ℕ → Result Parsed Refusal → Type 0
KeptOutcome keeps t left old new result =
    (SourceOutcome t left result × (IsTrue keeps → Copied t left.gives old new))
    ⊎ ((result ≡ Err Memory) × IsTrue keeps × LacksRoom t left old new)

-- what reading a source returns that may keep the bytes given, if the bytes of the source are known
abbrev pub KeepsSource : {S : Type 0} → SourceFacts S → S → S → Bool → List ℕ → List ℕ → Result Parsed Refusal → Type 0
KeepsSource source old new keeps old_kept new_kept result =
    IfSome (source.gives old) (λ t. KeptOutcome keeps t (after_pulls source old new) old_kept new_kept result)

-- a refusal with which reading a source ends before the end of the text is what reading the source returns
abbrev pub StopsSource : {S : Type 0} → SourceFacts S → S → S → Bool → List ℕ → List ℕ → Result (Unit {0}) Refusal
    → Type 0
StopsSource source old new keeps old_kept new_kept result =
    IfErr result (λ e. KeepsSource source old new keeps old_kept new_kept (Err e))
