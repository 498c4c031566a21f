-- What commands put on `out` for the texts that they read (this project's profile).
use Rattle.std.specs.Prelude.{◌≡◌, ◌↔◌, ℕ, ◌≤◌, List, true, Option, Some, Ok, Err}
use Rattle.dn_line.specs.declared.kind.Kind.{Kind}
use Rattle.dn_arc_theory.specs.declared.arc.Form.{Form}
use Rattle.dn_arc_theory.specs.declared.arc.Form.TheVariants.{One, Two}
use Rattle.dn_instance.specs.Companions.{companion_fit}
use Rattle.dn_instance.specs.Instances.{Instance, kind_of}
use Rattle.dn_instance.specs.Sameness.{IsSame}
use Rattle.dn_instance.specs.declared.companion.CompanionFault.{CompanionFault}
use Rattle.dn_canon.specs.CanonTexts.{IsCanonOf}
use Rattle.dn_compare.specs.FirstDifference.{IsFirstDifference}
use Rattle.dn_instance.specs.declared.verdict.Verdict.{Verdict}
use Rattle.dn_sink.specs.Rows.{line_text, text_of}
use Rattle.dn_report.specs.Checks.{checked_rows}
use Rattle.dn_report.specs.Shows.{IsShown}
use Rattle.dn_report.specs.Verdicts.{verdict_row}
use Rattle.dn_report.specs.declared.check.Forms.{Forms}

-- `show` puts the lines that describe the instance, with status 0
abbrev pub PutsShown : List ℕ → Instance → ℕ → List ℕ → Type 0
PutsShown b I status t = (status ≡ 0) × IsShown I t

-- `canon` puts the canonical text of the instance in this form, with status 0
abbrev pub PutsCanon : Form → List ℕ → Instance → ℕ → List ℕ → Type 0
PutsCanon form b I status t = (status ≡ 0) × IsCanonOf form t I

-- these are the forms in which b is the canonical text of the instance
pub record AreForms (b : List ℕ) (I : Instance) (forms : Forms) : Type 0 where
  pub one : (forms.one ≡ true) ↔ IsCanonOf One b I
  pub two : (forms.two ≡ true) ↔ IsCanonOf Two b I

-- `check` puts the kind of the instance, the kind of the companion if there is one, and the forms in which b is the
-- canonical text of the instance, with status 0
abbrev pub PutsChecked : Option Kind → List ℕ → Instance → ℕ → List ℕ → Type 0
PutsChecked companion b I status t = (status ≡ 0) × (forms : Forms) × AreForms b I forms
    × (t ≡ text_of (checked_rows (kind_of I) companion forms))

-- `check` with a companion J that fits I puts the kinds of I and J, and the forms in which b is the canonical text of
-- I, with status 0
abbrev pub PutsFit : List ℕ → Instance → Instance → ℕ → List ℕ → Type 0
PutsFit b I J status t = (companion_fit I J ≡ Ok tt) × PutsChecked (Some (kind_of J)) b I status t

-- J is not a companion that fits I, for this reason
abbrev pub Unfits : Instance → Instance → CompanionFault → Type 0
Unfits I J fault = companion_fit I J ≡ Err fault

-- never true: a command that asks for no companion has no fault of one
abbrev pub Never : CompanionFault → Type 0
Never fault = ⊥

-- `compare` puts the line of the first difference between I and J. The status is 0 if and only if I and J are the same
-- problem, and otherwise 1
pub record PutsCompared (I J : Instance) (status : ℕ) (t : List ℕ) : Type 0 where
  pub verdict : Verdict
  pub first : IsFirstDifference I J verdict
  pub text_is : t ≡ line_text (verdict_row verdict)
  pub most : status ≤ 1
  pub same : (status ≡ 0) ↔ IsSame I J
