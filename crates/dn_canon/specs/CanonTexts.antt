-- Which text is the canonical text of an instance, in each form (this project's profile).
use Rattle.std.specs.Prelude.{◌≡◌, ◌≤◌, ◌^◌, ℕ, List}
use Rattle.dn_arc_theory.specs.declared.arc.Form.{Form}
use Rattle.dn_instance.specs.Instances.{Instance, size_of}
use Rattle.dn_canon.specs.CanonInstances.{IsCanonInstanceOf}
use Rattle.dn_canon.specs.Prints.{print}

-- J is the canonical instance of I, and t is the printed text of J
pub record PrintsCanon (form : Form) (t : List ℕ) (I J : Instance) : Type 0 where
  pub canon : IsCanonInstanceOf form J I
  pub text_is : t ≡ print J

-- t is the canonical text of I
abbrev pub IsCanonOf : Form → List ℕ → Instance → Type 0
IsCanonOf form t I = (J : Instance) × PrintsCanon form t I J

-- the canonical text of I has 2^63 counted lines or more
abbrev pub IsTooLarge : Form → Instance → Type 0
IsTooLarge form I = (J : Instance) × IsCanonInstanceOf form J I × 2 ^ 63 ≤ size_of J
