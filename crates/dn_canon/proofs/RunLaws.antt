-- Lemmas on a run from a source to a sink.
use Rattle.std.proofs.Common.{ℕ, List, Option, Some, None, Result, Ok, Err, IfSome}
use Rattle.dn_arc_theory.specs.declared.arc.Form.{Form}
use Rattle.dn_instance.specs.State.Helds.{Parsed, IsHeld}
use Rattle.dn_instance.specs.Instances.{Instance}
use Rattle.dn_instance.specs.SourceReads.{AfterPulls}
use Rattle.dn_instance.specs.State.SourceResults.{SourceOutcome}
use Rattle.dn_instance.specs.Validity.{IsValid}
use Rattle.dn_instance.specs.declared.refusal.Refusal.{Refusal}
use Rattle.dn_instance.specs.declared.refusal.Refusal.TheVariants.{Write, CountTooLarge}
use Rattle.dn_instance.proofs.ValidLaws.{reads_valid}
use Rattle.dn_canon.specs.State.Runs.{RunOutcome}
use Rattle.dn_canon.specs.State.Writes.{WritesCanon}
use Rattle.dn_sink.specs.Sinks.{SinkFacts}

-- after a text was read, the outcome of the run is that of writing
pub run_written : {S : Type 0} (sink : SinkFacts S) (old new : S) (form : Form) (given : Option (List ℕ))
    (left : AfterPulls) (held : Parsed) (result : Result (Unit {0}) Refusal)
    → IfSome given (λ t. SourceOutcome t left (Ok held))
    → ((I : Instance) → IsValid I → IsHeld held I → WritesCanon sink old new form I result)
    → IfSome given (λ t. RunOutcome sink old new form t left result)
run_written sink old new form None left held result o w = tt
run_written sink old new form (Some t) left held result o w =
    by_result result (w o.0.0 (reads_valid t o.0.0 o.0.1) o.0.2)
  where
    by_result : (r : Result (Unit {0}) Refusal) → WritesCanon sink old new form o.0.0 r
        → RunOutcome sink old new form t left r
    by_result (Err Write) h = (o.0.0, o.0.1, o.1, h)
    by_result (Err CountTooLarge) h = (o.0.0, o.0.1, o.1, h)
    by_result (Err _) h = absurd h.2
    by_result (Ok x) h = (o.0.0, o.0.1, o.1, h)

-- a refusal of reading is the outcome of the run
pub run_refused : {S : Type 0} (sink : SinkFacts S) (old new : S) (form : Form) (given : Option (List ℕ))
    (left : AfterPulls) (e : Refusal) → IfSome given (λ t. SourceOutcome t left (Err e))
    → IfSome given (λ t. RunOutcome sink old new form t left (Err e))
run_refused sink old new form None left e o = tt
run_refused sink old new form (Some t) left Write o = absurd o
run_refused sink old new form (Some t) left CountTooLarge o = absurd o
run_refused sink old new form (Some t) left _ o = o
