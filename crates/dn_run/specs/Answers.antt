-- How a command can end, and what its exit status, `err` and `out` are then (this project's profile).
use Rattle.std.specs.Prelude.{◌≡◌, ◌⊎◌, ℕ, ◌≤◌, List, [], Some, IsTrue}
use Rattle.dn_instance.specs.SourceReads.{IsOfReading}
use Rattle.dn_instance.specs.declared.companion.CompanionFault.{CompanionFault}
use Rattle.dn_instance.specs.declared.refusal.Refusal.{Refusal}
use Rattle.dn_instance.specs.declared.refusal.Refusal.TheVariants.{Text, Write, CountTooLarge}
use Rattle.dn_command.specs.Commands.{Asked, Show, Check, Canon, Compare}
use Rattle.dn_report.specs.FaultLines.{fault_line, unfit_line}
use Rattle.dn_run.specs.Streams.{SinkRun, TakesLine}

-- how a command has ended
pub data Answer : Type 0 where
  -- it is done, with this exit status
  Done : ℕ → Answer
  -- the text of this name is refused, for this reason
  Refused : List ℕ → Refusal → Answer
  -- the companion of this name does not fit, for this reason
  Unfit : List ℕ → CompanionFault → Answer
  -- `out` has failed
  Cut : Answer

-- the exit status of a refusal: 2 for a fault of the text or a canonical text that is too large, and 4 for any other
abbrev pub refusal_status : Refusal → ℕ
refusal_status (Text place code) = 2
refusal_status CountTooLarge = 2
refusal_status _ = 4

-- the exit status of a command that has ended like this: the given one if it is done, that of the refusal if a text is
-- refused, 2 if a companion does not fit, and 4 if `out` has failed
abbrev pub status_of : Answer → ℕ
status_of (Done status) = status
status_of (Refused name refusal) = refusal_status refusal
status_of (Unfit name fault) = 2
status_of Cut = 4

-- what the command puts on `err`: nothing if it is done, and otherwise one line that says why it is not
abbrev pub Tells : {S : Type 0} → SinkRun S → Answer → Type 0
Tells err (Done status) = err.new ≡ err.old
Tells err (Refused name refusal) = TakesLine err (fault_line name refusal)
Tells err (Unfit name fault) = TakesLine err (unfit_line name fault)
Tells err Cut = TakesLine err (fault_line [] Write)

-- what the command has done to `out`: if the command is done, `out` has passed on all that it took, and whether it has
-- failed did not change; if a text is refused or a companion does not fit, `out` is unchanged; if the answer is `Cut`,
-- `out` has failed
abbrev pub OutAfter : {S : Type 0} → SinkRun S → Answer → Type 0
OutAfter out (Done status) =
    IsTrue (out.facts.is_flushed out.new) × (out.facts.has_failed out.new ≡ out.facts.has_failed out.old)
OutAfter out (Refused name refusal) = out.new ≡ out.old
OutAfter out (Unfit name fault) = out.new ≡ out.old
OutAfter out Cut = IsTrue (out.facts.has_failed out.new)

-- a command that is done has status 0, or, if it is a comparison, 0 or 1
abbrev pub IsDoneWith : Asked → ℕ → Type 0
IsDoneWith (Compare left right) status = status ≤ 1
IsDoneWith _ status = status ≡ 0

-- the command asks for a text of this name
abbrev pub IsNameOf : Asked → List ℕ → Type 0
IsNameOf (Show name) of = of ≡ name
IsNameOf (Check name companion) of = (of ≡ name) ⊎ (companion ≡ Some of)
IsNameOf (Canon name form) of = of ≡ name
IsNameOf (Compare left right) of = (of ≡ left) ⊎ (of ≡ right)

-- the command asks for a companion of this name
abbrev pub IsCompanionOf : Asked → List ℕ → Type 0
IsCompanionOf (Check name companion) of = companion ≡ Some of
IsCompanionOf _ of = ⊥

-- the command may refuse a text for this reason: any reason of reading, or, if the canonical text is asked for, that it
-- is too large
abbrev pub MayRefuse : Asked → Refusal → Type 0
MayRefuse (Canon name form) refusal = IsOfReading refusal ⊎ (refusal ≡ CountTooLarge)
MayRefuse _ refusal = IsOfReading refusal

-- how the command may end, whatever its texts contain: done, with one of its statuses; with the refusal of a text that
-- it asks for, for one of its reasons; with a companion that it asks for and that does not fit; or because `out` has
-- failed
abbrev pub IsAnswerTo : Asked → Answer → Type 0
IsAnswerTo asked (Done status) = IsDoneWith asked status
IsAnswerTo asked (Refused name refusal) = IsNameOf asked name × MayRefuse asked refusal
IsAnswerTo asked (Unfit name fault) = IsCompanionOf asked name
IsAnswerTo asked Cut = Unit {0}
