-- What a command has done with its texts, by how it has ended (this project's profile).
use Rattle.std.specs.Prelude.{◌≡◌, ◌⊎◌, ℕ, List, None, IfSome}
use Rattle.std.specs.Io.KnownBytes.{Appends}
use Rattle.dn_instance.specs.Instances.{Instance}
use Rattle.dn_instance.specs.Texts.{Reads}
use Rattle.dn_instance.specs.declared.companion.CompanionFault.{CompanionFault}
use Rattle.dn_instance.specs.declared.refusal.Refusal.{Refusal}
use Rattle.dn_instance.specs.declared.refusal.Refusal.TheVariants.{Read}
use Rattle.dn_sink.specs.Puts.{PutsPrefix}
use Rattle.dn_run.specs.Answers.{Answer, Done, Refused, Unfit, Cut}
use Rattle.dn_run.specs.Streams.{SinkRun}
use Rattle.dn_run.specs.Texts.{AskedText, IsRefusedText, unopened}

-- the answer is right for the text b of this name. Done: b reads as an instance, and `out` took a text that the command
-- puts for this instance, with this status. Refused: the name is this one, and the reason is one to refuse b. Unfit: b
-- reads as an instance, the name is this one, and the fault is why this instance does not fit. Cut: b reads as an
-- instance, and `out` has failed after it took a prefix of a text that the command puts for this instance
abbrev pub RanOn : {S : Type 0} → (List ℕ → Instance → ℕ → List ℕ → Type 0) → (Instance → CompanionFault → Type 0)
    → (List ℕ → Refusal → Type 0) → List ℕ → SinkRun S → List ℕ → Answer → Type 0
RanOn Puts Unfits Refuses name out b (Done status) =
    (I : Instance) × Reads b I × (t : List ℕ) × Puts b I status t
    × Appends (out.facts.taken out.old) (out.facts.taken out.new) t
RanOn Puts Unfits Refuses name out b (Refused of refusal) = (of ≡ name) × Refuses b refusal
RanOn Puts Unfits Refuses name out b (Unfit of fault) = (I : Instance) × Reads b I × (of ≡ name) × Unfits I fault
RanOn Puts Unfits Refuses name out b Cut =
    (I : Instance) × Reads b I × (status : ℕ) × (t : List ℕ) × Puts b I status t
    × PutsPrefix out.facts out.old out.new t

-- the answer refuses a text, or is right for some text b of this name, whether or not the bytes behind the name are
-- known
abbrev pub RanOnSome : {S : Type 0} → (List ℕ → Instance → ℕ → List ℕ → Type 0) → (Instance → CompanionFault → Type 0)
    → (List ℕ → Refusal → Type 0) → List ℕ → SinkRun S → Answer → Type 0
RanOnSome Puts Unfits Refuses name out (Refused of refusal) = Unit {0}
RanOnSome Puts Unfits Refuses name out answer = (b : List ℕ) × RanOn Puts Unfits Refuses name out b answer

-- what a command has done with one text. If the files did not hand it out, the answer refuses it for that. If they
-- handed it out and the answer refuses it with `Read`, its source has failed. If they handed it out and the bytes
-- behind its name are known, the answer is right for these bytes. In each case the answer is right for some text,
-- unless it is a refusal
pub record OnText {S : Type 0} (Puts : List ℕ → Instance → ℕ → List ℕ → Type 0)
    (Unfits : Instance → CompanionFault → Type 0) (Refuses : List ℕ → Refusal → Type 0)
    (text : AskedText) (out : SinkRun S) (answer : Answer) : Type 0 where
  pub not_handed : IfSome text.fault (λ fault. answer ≡ Refused text.name (unopened fault))
  pub failed : text.fault ≡ None → answer ≡ Refused text.name Read → text.HasFailed
  pub handed : text.fault ≡ None → IfSome text.behind (λ b. RanOn Puts Unfits Refuses text.name out b answer)
  pub some : RanOnSome Puts Unfits Refuses text.name out answer

-- the answer refuses the text of this name, for a reason to refuse b
abbrev pub IsRefusedAs : (List ℕ → Refusal → Type 0) → List ℕ → List ℕ → Answer → Type 0
IsRefusedAs Refuses name b answer = (refusal : Refusal) × (answer ≡ Refused name refusal) × Refuses b refusal

-- the answer refuses a text, or is right for some two texts, of which the left one reads as an instance and the right
-- one has this name, whether or not the bytes behind the names are known
abbrev pub RanOnTwo : {S : Type 0} → (List ℕ → Instance → Instance → ℕ → List ℕ → Type 0)
    → (Instance → Instance → CompanionFault → Type 0) → (List ℕ → Refusal → Type 0) → List ℕ → SinkRun S → Answer
    → Type 0
RanOnTwo Puts Unfits Refuses name out (Refused of refusal) = Unit {0}
RanOnTwo Puts Unfits Refuses name out answer =
    (b : List ℕ) × (I : Instance) × Reads b I × RanOnSome (λ c J. Puts b I J) (Unfits I) Refuses name out answer

-- what a command has done with two texts, of which it reads the left one first. If the files did not hand out the left
-- text, the answer refuses it for that. If they handed it out and the bytes behind its name are known, the answer
-- refuses it, or it reads as an instance and `OnText` holds of the right text. In each case the answer is right for
-- some two texts, unless it is a refusal
pub record OnTwoTexts {S : Type 0} (Puts : List ℕ → Instance → Instance → ℕ → List ℕ → Type 0)
    (Unfits : Instance → Instance → CompanionFault → Type 0) (Refuses : List ℕ → Refusal → Type 0)
    (left right : AskedText) (out : SinkRun S) (answer : Answer) : Type 0 where
  pub not_handed : IfSome left.fault (λ fault. answer ≡ Refused left.name (unopened fault))
  pub handed : left.fault ≡ None → IfSome left.behind (λ b. IsRefusedAs Refuses left.name b answer
      ⊎ ((I : Instance) × Reads b I × OnText (λ c J. Puts b I J) (Unfits I) (IsRefusedText right) right out answer))
  pub some : RanOnTwo Puts Unfits (IsRefusedText right) right.name out answer
