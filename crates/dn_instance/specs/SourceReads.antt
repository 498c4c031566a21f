-- How far reading goes through a source, and which refusals it returns (this project's profile).
use Rattle.std.specs.Prelude.{◌≡◌, ◌⊎◌, ℕ, ◌<◌, ◌≤◌, ◌^◌, List, ◌++◌, length, Option, Some, IfSome}
use Rattle.std.specs.Io.KnownBytes.{Consumes, IsAtEnd}
use Rattle.dn_line.specs.Pieces.{lines}
use Rattle.dn_line.specs.Sources.{SourceFacts}
use Rattle.dn_instance.specs.declared.refusal.Refusal.{Refusal}
use Rattle.dn_instance.specs.declared.refusal.Refusal.TheVariants.{Write, CountTooLarge}
use Rattle.dn_instance.specs.Readers.{WantsMemory, ended}
use Rattle.dn_instance.specs.Texts.{IsClean}

-- of the text t, the source has given these bytes and still gives the rest; no complete line of the bytes given has a
-- fault
pub record CleanSoFar (t : List ℕ) (new : Option (List ℕ)) : Type 0 where
  pub given : List ℕ
  pub rest : List ℕ
  pub whole : t ≡ given ++ rest
  pub rest_is : new ≡ Some rest
  pub clean : IsClean (ended given)

-- pulls changed the source from `old` to this state, and each of them gave at least one byte, if the bytes of the
-- source are known
pub data PulledBytes {S : Type 0} (source : SourceFacts S) (old : S) : S → Type 0 where
  unpulled : PulledBytes source old old
  pulled : (mid new : S) (bytes : List ℕ) → PulledBytes source old mid → source.Pulls mid new
      → Consumes (source.gives mid) (source.gives new) bytes → 0 < length bytes → PulledBytes source old new

-- pulls changed the source from `old` to `before`, and each of them gave at least one byte; one more pull changed
-- `before` to `new`. If the bytes of the source are known, the last pull gave this piece, and all others gave `given`
pub record GaveLast {S : Type 0} (source : SourceFacts S) (old new : S) (given piece : List ℕ) : Type 0 where
  pub before : S
  pub pulls : PulledBytes source old before
  pub gave : Consumes (source.gives old) (source.gives before) given
  pub last : source.Pulls before new
  pub gave_last : Consumes (source.gives before) (source.gives new) piece

-- a source after some pulls
pub record AfterPulls : Type 1 where
  -- the bytes that it still gives, if they are known
  pub gives : Option (List ℕ)
  -- all pulls but the last gave the first bytes, and the last gave the second ones
  pub Gave : List ℕ → List ℕ → Type 0

-- what pulls from `old` to `new` left
abbrev pub after_pulls : {S : Type 0} → SourceFacts S → S → S → AfterPulls
after_pulls source old new = record { gives = source.gives new; Gave = GaveLast source old new }

-- of the text t, all pulls but the last gave `given`, the last gave a piece of at most 2^12 bytes, and the source still
-- gives the rest. Memory ran out at a line whose LF is in this piece and that spells an item that needs memory; neither
-- it nor an earlier line has a fault
pub record RanOutInPiece (t : List ℕ) (left : AfterPulls) : Type 0 where
  pub given : List ℕ
  pub piece : List ℕ
  pub rest : List ℕ
  pub whole : t ≡ given ++ (piece ++ rest)
  pub rest_is : left.gives ≡ Some rest
  pub pulled : left.Gave given piece
  pub short : length piece ≤ 2 ^ 12
  pub wants : WantsMemory (length (ended given)) (ended (given ++ piece))

-- memory ran out at a line of the text t: at a line whose LF is in the last piece, or at a last line without an LF,
-- with the source at its end. The line spells an item that needs memory, and neither it nor an earlier line has a fault
abbrev pub RanOut : List ℕ → AfterPulls → Type 0
RanOut t left = RanOutInPiece t left ⊎ (IsAtEnd left.gives × WantsMemory (length (ended t)) (lines t))

-- pulls changed the source from `old` to `before`, and each of them gave at least one byte; no complete line of the
-- bytes given has a fault, if the bytes of the source are known. The state `new` is `before`, or one more pull changed
-- `before` to it
pub record PulledWhileClean {S : Type 0} (source : SourceFacts S) (old new : S) : Type 0 where
  pub before : S
  pub pulls : PulledBytes source old before
  pub clean : IfSome (source.gives old) (λ t. CleanSoFar t (source.gives before))
  pub last : (new ≡ before) ⊎ source.Pulls before new

-- reading returns any refusal except `Write` and `CountTooLarge`
abbrev pub IsOfReading : Refusal → Type 0
IsOfReading Write = ⊥
IsOfReading CountTooLarge = ⊥
IsOfReading _ = Unit {0}
