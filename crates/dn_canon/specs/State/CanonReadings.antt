-- What a canonical text reads as.
use Rattle.std.specs.Prelude.{◌≡◌, ℕ, List}
use Rattle.dn_arc_theory.specs.declared.arc.Form.{Form}
use Rattle.dn_instance.specs.Instances.{Instance}
use Rattle.dn_instance.specs.Sameness.{IsSame}
use Rattle.dn_instance.specs.Texts.{Reads}
use Rattle.dn_canon.specs.CanonTexts.{IsCanonOf}

-- t reads as J and as nothing else, and J is the same problem as I
pub record ReadsBack (t : List ℕ) (I J : Instance) : Type 0 where
  pub reads : Reads t J
  pub same : IsSame I J
  pub only : (K : Instance) → Reads t K → K ≡ J

-- t reads as J and as nothing else, J is the same problem as I, and t is the only canonical text of J
pub record ReadsTwice (form : Form) (t : List ℕ) (I J : Instance) : Type 0 where
  pub back : ReadsBack t I J
  pub again : IsCanonOf form t J
  pub only : (u : List ℕ) → IsCanonOf form u J → u ≡ t
