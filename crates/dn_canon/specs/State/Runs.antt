-- What producing the canonical text of a text does.
use Rattle.std.specs.Prelude.{◌≡◌, ◌↔◌, true, ◌<◌, ◌^◌, ℕ, List, Bool, Ok, Err, IfSome}
use Rattle.std.specs.Io.KnownBytes.{IsAtEnd}
use Rattle.std.specs.declared.result.Result.{Result}
use Rattle.dn_line.specs.Pieces.{lines}
use Rattle.dn_line.specs.Sources.{SourceFacts}
use Rattle.dn_arc_theory.specs.declared.arc.Form.{Form}
use Rattle.dn_instance.specs.Instances.{Instance, size_of}
use Rattle.dn_instance.specs.Readers.{WantsMemory}
use Rattle.dn_instance.specs.SourceReads.{AfterPulls, after_pulls}
use Rattle.dn_instance.specs.State.SourceResults.{SourceOutcome}
use Rattle.dn_instance.specs.Texts.{Reads, IsFirstFault}
use Rattle.dn_instance.specs.declared.refusal.Refusal.{Refusal}
use Rattle.dn_instance.specs.declared.refusal.Refusal.TheVariants.{Text, Memory, Write, CountTooLarge}
use Rattle.dn_sink.specs.Sinks.{SinkFacts}
use Rattle.dn_canon.specs.CanonInstances.{IsCanonInstanceOf}
use Rattle.dn_canon.specs.CanonTexts.{IsCanonOf, IsTooLarge, PrintsCanon}
use Rattle.dn_canon.specs.State.Writes.{WritesCanon}

-- why no canonical text of I was made: memory ran out, though the text has fewer than 2^63 counted lines, or it has
-- 2^63 or more
abbrev pub TextFault : Form → Instance → Refusal → Type 0
TextFault form I Memory = (J : Instance) × IsCanonInstanceOf form J I × size_of J < 2 ^ 63
TextFault form I CountTooLarge = IsTooLarge form I
TextFault form I _ = ⊥

-- the canonical text of I, which has fewer than 2^63 counted lines, or why there is none
abbrev pub TextOutcome : {V : Type 0} → (V → List ℕ) → Form → Instance → Result V Refusal → Type 0
TextOutcome bytes form I (Ok text) = (J : Instance) × PrintsCanon form (bytes text) I J × size_of J < 2 ^ 63
TextOutcome bytes form I (Err e) = TextFault form I e

-- t reads as an instance, and the answer is whether t is the canonical text of that instance; or the first fault of t;
-- or out of memory at a line without a fault
abbrev pub JudgesCanon : Form → List ℕ → Result Bool Refusal → Type 0
JudgesCanon form t (Ok answer) = (I : Instance) × Reads t I × ((answer ≡ true) ↔ IsCanonOf form t I)
JudgesCanon form t (Err (Text place code)) = IsFirstFault t place code
JudgesCanon form t (Err Memory) = WantsMemory 0 (lines t)
JudgesCanon form t (Err _) = ⊥

-- the source gave the text t from here on, and its pulls left it so. At its end t reads as an instance, and either its
-- canonical text is written or writing is refused. A refusal of reading leaves the source as `read_from` does
abbrev pub RunOutcome : {S : Type 0} → SinkFacts S → S → S → Form → List ℕ → AfterPulls → Result (Unit {0}) Refusal
    → Type 0
RunOutcome sink old new form t left (Ok x) =
    (I : Instance) × Reads t I × IsAtEnd left.gives × WritesCanon sink old new form I (Ok x)
RunOutcome sink old new form t left (Err Write) =
    (I : Instance) × Reads t I × IsAtEnd left.gives × WritesCanon sink old new form I (Err Write)
RunOutcome sink old new form t left (Err CountTooLarge) =
    (I : Instance) × Reads t I × IsAtEnd left.gives × WritesCanon sink old new form I (Err CountTooLarge)
RunOutcome sink old new form t left (Err refusal) = SourceOutcome t left (Err refusal)

-- what canonicalising the text of a source returns, if its bytes are known
abbrev pub RunsSource : {T S : Type 0} → SourceFacts T → T → T → SinkFacts S → S → S → Form → Result (Unit {0}) Refusal
    → Type 0
RunsSource source before after sink old new form result =
    IfSome (source.gives before) (λ t. RunOutcome sink old new form t (after_pulls source before after) result)
