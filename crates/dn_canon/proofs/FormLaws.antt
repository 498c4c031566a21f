-- For all kinds but `min`, the canonical text is the same in both forms.
use Rattle.std.proofs.Common.{◌≡◌, ◌≢◌, ℕ, List, refl, ◌∙◌}
use Rattle.dn_line.specs.declared.kind.Kind.TheVariants as Kinds
use Rattle.dn_arc_theory.specs.declared.arc.Form.{Form}
use Rattle.dn_instance.specs.Instances.{Instance, MinCostFlow, MaxFlow, ShortestPaths, Sources, Queries, Coordinates, kind_of}
use Rattle.dn_instance.specs.Sameness.{IsSame}
use Rattle.dn_canon.specs.CanonInstances.{IsCanonInstance}
use Rattle.dn_canon.specs.CanonTexts.{IsCanonOf}

canonical_in : (form form' : Form) (J : Instance) → kind_of J ≢ Kinds.Min → IsCanonInstance form J
    → IsCanonInstance form' J
canonical_in form form' (MinCostFlow supplies graph) other h = absurd (other refl)
canonical_in form form' (MaxFlow source sink graph) other h = record { in_order = h.in_order; canonical = h.canonical }
canonical_in form form' (ShortestPaths graph) other h = record { in_order = h.in_order; canonical = h.canonical }
canonical_in form form' _ other h = h

same_kind : (I J : Instance) → IsSame I J → kind_of I ≡ kind_of J
same_kind (MinCostFlow s G) (MinCostFlow t H) h = refl
same_kind (MaxFlow a b G) (MaxFlow c d H) h = refl
same_kind (ShortestPaths G) (ShortestPaths H) h = refl
same_kind (Sources xs) (Sources ys) h = refl
same_kind (Queries xs) (Queries ys) h = refl
same_kind (Coordinates xs) (Coordinates ys) h = refl
same_kind _ _ h = absurd h

pub canon_in : (form form' : Form) (t : List ℕ) (I : Instance) → kind_of I ≢ Kinds.Min → IsCanonOf form t I
    → IsCanonOf form' t I
canon_in form form' t I other (J, h) = (
  J,
  record {
    canon = record {
      valid = h.canon.valid;
      canonical = canonical_in form form' J (λ min. other (same_kind I J h.canon.same ∙ min)) h.canon.canonical;
      same = h.canon.same;
    };
    text_is = h.text_is;
  },
)
