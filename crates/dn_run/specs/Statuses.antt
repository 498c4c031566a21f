-- What a plain command has done, by its exit status (this project's profile).
use Rattle.std.specs.Prelude.{◌≡◌, ◌⊎◌, ℕ, List, Option, Some, None, IfSome, IsTrue, true, false}
use Rattle.std.specs.Io.KnownBytes.{Appends}
use Rattle.dn_line.specs.declared.code.Code.{Code}
use Rattle.dn_arc_theory.specs.declared.arc.Form.{Form}
use Rattle.dn_instance.specs.Instances.{Instance}
use Rattle.dn_instance.specs.Texts.{IsFirstFault, Reads}
use Rattle.dn_instance.specs.declared.companion.CompanionFault.{CompanionFault}
use Rattle.dn_instance.specs.declared.refusal.Place.{Place}
use Rattle.dn_instance.specs.declared.refusal.Refusal.TheVariants.{Text, CountTooLarge}
use Rattle.dn_canon.specs.CanonTexts.{IsTooLarge}
use Rattle.dn_report.specs.FaultLines.{fault_line, unfit_line}
use Rattle.dn_command.specs.Commands.{Asked, Show, Check, Canon, Compare, names_twice, plain_asked}
use Rattle.dn_run.specs.Streams.{SinkRun, TakesLine}
use Rattle.dn_run.specs.Words.{twice_line}
use Rattle.dn_run.specs.Findings.{PutsShown, PutsChecked, PutsCanon, PutsFit, PutsCompared, Unfits, Never}

-- b are the bytes of a text, if they are known
abbrev pub AreBytes : Option (List ℕ) → List ℕ → Type 0
AreBytes known b = IfSome known (λ k. k ≡ b)

-- `out` took this text after what it had taken before, has passed on all, and did not fail; `err` is unchanged
pub record HasWritten {S E : Type 0} (out : SinkRun S) (err : SinkRun E) (t : List ℕ) : Type 0 where
  pub took : Appends (out.facts.taken out.old) (out.facts.taken out.new) t
  pub flushed : IsTrue (out.facts.is_flushed out.new)
  pub fine : out.facts.has_failed out.new ≡ out.facts.has_failed out.old
  pub silent : err.new ≡ err.old

-- `out` is unchanged, and `err` took this line
pub record HasRefused {S E : Type 0} (out : SinkRun S) (err : SinkRun E) (line : List ℕ) : Type 0 where
  pub out_stays : out.new ≡ out.old
  pub tells : TakesLine err line

-- status 4: memory, a file, a source or `out` has failed, or a source has no end; `out` is unchanged, or has failed
abbrev pub HasFailed : {S : Type 0} → SinkRun S → ℕ → Type 0
HasFailed out status = (status ≡ 4) × ((out.new ≡ out.old) ⊎ IsTrue (out.facts.has_failed out.new))

-- how a command ends that asks for the text of this name
pub data EndsOne {S E : Type 0} (out : SinkRun S) (err : SinkRun E) (Puts : List ℕ → Instance → ℕ → List ℕ → Type 0)
    (name : List ℕ) (known : Option (List ℕ)) (status : ℕ) : Type 0 where
  -- the text b reads as the instance I, and `out` took a text t that the command puts for it with this status
  wrote : (b : List ℕ) (I : Instance) (t : List ℕ) → AreBytes known b → Reads b I → Puts b I status t
      → HasWritten out err t → EndsOne out err Puts name known status
  -- status 2: the text is refused for its first fault
  faulty : (p : Place) (c : Code) → IfSome known (λ b. IsFirstFault b p c) → status ≡ 2
      → HasRefused out err (fault_line name (Text p c)) → EndsOne out err Puts name known status
  failed : HasFailed out status → EndsOne out err Puts name known status

-- status 2: the text reads as an instance whose canonical text is too large
pub record EndsLarge {S E : Type 0} (out : SinkRun S) (err : SinkRun E) (form : Form) (name : List ℕ)
    (known : Option (List ℕ)) (status : ℕ) : Type 0 where
  pub large : IfSome known (λ b. (I : Instance) × Reads b I × IsTooLarge form I)
  pub status_is : status ≡ 2
  pub refused : HasRefused out err (fault_line name CountTooLarge)

-- the text of this name has this first fault: it is the left text, or it is the right one and the left text reads as an
-- instance; as far as the bytes are known
abbrev pub IsFaultOf : List ℕ → List ℕ → Option (List ℕ) → Option (List ℕ) → List ℕ → Place → Code → Type 0
IsFaultOf left right known_left known_right of p d =
    IfSome known_left (λ b. ((of ≡ left) × IsFirstFault b p d)
    ⊎ ((I : Instance) × Reads b I × IfSome known_right (λ c. (of ≡ right) × IsFirstFault c p d)))

-- b and c are the bytes of the left and of the right text; if those of the left text are not known, this says nothing
-- of c
abbrev pub AreBoth : Option (List ℕ) → Option (List ℕ) → List ℕ → List ℕ → Type 0
AreBoth left right b c = IfSome left (λ k. (k ≡ b) × AreBytes right c)

-- how a command ends that asks for the texts of these names, of which it reads the left one first
pub data EndsTwo {S E : Type 0} (out : SinkRun S) (err : SinkRun E)
    (Puts : List ℕ → Instance → Instance → ℕ → List ℕ → Type 0)
    (Differs : Instance → Instance → CompanionFault → Type 0) (left right : List ℕ)
    (known_left known_right : Option (List ℕ)) (status : ℕ) : Type 0 where
  -- the texts b and c read as the instances I and J, and `out` took a text t that the command puts for them with this
  -- status
  wrote_both : (b c : List ℕ) (I J : Instance) (t : List ℕ) → AreBoth known_left known_right b c → Reads b I → Reads c J
      → Puts b I J status t → HasWritten out err t
      → EndsTwo out err Puts Differs left right known_left known_right status
  -- status 2: a text is refused for its first fault
  one_faulty : (of : List ℕ) (p : Place) (d : Code) → (of ≡ left) ⊎ (of ≡ right)
      → IsFaultOf left right known_left known_right of p d → status ≡ 2
      → HasRefused out err (fault_line of (Text p d))
      → EndsTwo out err Puts Differs left right known_left known_right status
  -- status 2: the texts b and c read as the instances I and J, and J does not fit I, for this reason
  unfit : (b c : List ℕ) (I J : Instance) (fault : CompanionFault) → AreBoth known_left known_right b c → Reads b I
      → Reads c J → Differs I J fault → status ≡ 2 → HasRefused out err (unfit_line right fault)
      → EndsTwo out err Puts Differs left right known_left known_right status
  failed_two : HasFailed out status → EndsTwo out err Puts Differs left right known_left known_right status

-- how a command ends, where these bytes are behind the names of its texts, if they are known
abbrev pub EndsAs : {S E : Type 0} → (List ℕ → Option (List ℕ)) → SinkRun S → SinkRun E → Asked → ℕ → Type 0
EndsAs behind out err (Show name) status = EndsOne out err PutsShown name (behind name) status
EndsAs behind out err (Check name None) status = EndsOne out err (PutsChecked None) name (behind name) status
EndsAs behind out err (Check name (Some companion)) status =
    EndsTwo out err PutsFit Unfits name companion (behind name) (behind companion) status
EndsAs behind out err (Canon name form) status =
    EndsOne out err (PutsCanon form) name (behind name) status ⊎ EndsLarge out err form name (behind name) status
EndsAs behind out err (Compare left right) status =
    EndsTwo out err (λ _. PutsCompared) (λ _ _. Never) left right (behind left) (behind right) status

-- what a run has done for these words, the program's name first, if they are a plain form of a command, where these
-- bytes are behind the names of its texts, if they are known
pub record RanPlain {S E : Type 0} (words : List (List ℕ)) (behind : List ℕ → Option (List ℕ)) (out : SinkRun S)
    (err : SinkRun E) (status : ℕ) : Type 0 where
  -- the command ends in one of its ways
  pub once : (asked : Asked) → plain_asked words ≡ Some asked → names_twice asked ≡ false
      → EndsAs behind out err asked status
  -- status 3: the command names standard input for two texts
  pub twice : (asked : Asked) → plain_asked words ≡ Some asked → names_twice asked ≡ true
      → (status ≡ 3) × HasRefused out err twice_line
