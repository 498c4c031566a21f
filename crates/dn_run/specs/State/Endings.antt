-- How a command has ended, by its result.
use Rattle.std.specs.Prelude.{◌≡◌, ℕ, List, Result, Ok, Err}
use Rattle.dn_instance.specs.declared.refusal.Refusal.{Refusal}
use Rattle.dn_instance.specs.declared.refusal.Refusal.TheVariants.{Write}
use Rattle.dn_instance.specs.State.Helds.{Parsed}
use Rattle.dn_run.specs.declared.stop.Stop.{Stop}
use Rattle.dn_run.specs.declared.stop.Stop.TheVariants as Stops
use Rattle.dn_run.specs.Answers.{Answer, Cut, Done, Refused, Unfit}

-- how a command has ended that could not write the canonical text for this name
abbrev pub unwritten : List ℕ → Refusal → Answer
unwritten name Write = Cut
unwritten name refusal = Refused name refusal

-- how a command has ended that stopped for this reason
abbrev pub stopped : Stop → Answer
stopped (Stops.Refused name refusal) = Refused name.now refusal
stopped (Stops.Unfit name fault) = Unfit name.now fault
stopped Stops.Cut = Cut

-- how a command with this result has ended
abbrev pub answer_of : Result ℕ Stop → Answer
answer_of (Ok status) = Done status
answer_of (Err stop) = stopped stop

-- the command goes on with what was read, or it stops since the text of this name is refused
abbrev pub IsNamed : List ℕ → Result Parsed Refusal → Result Parsed Stop → Type 0
IsNamed name (Ok held) (Ok same) = same ≡ held
IsNamed name (Err refusal) (Err stop) = stopped stop ≡ Refused name refusal
IsNamed name _ _ = ⊥
