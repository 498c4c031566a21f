-- Adding the next arc of a list to a bundle of the arcs before it: the bundle represents one more arc, and either the
-- capacities so far sum to at most 2^63-1, or the capacities of all arcs sum to more.
use Rattle.std.proofs.Common.{◌≡◌, ℕ, ◌+◌, ◌<◌, ◌-◌, ◌^◌, pos, ◌≤ℤ◌, ◌<ℤ◌, List, [], ◌∷◌, ◌++◌, length, take, drop, get_or, Option, Some, None, sym, ap, ◌∙◌, arith, suc, zero}
use Rattle.std.proofs.Math.Seq.{take-suc}
use Rattle.std.proofs.lemmas.List.{take-append-drop}
use Rattle.std.proofs.lemmas.Int.{ints, by_lt_z}
use Rattle.std.specs.List.{AllByRecursion}
use Rattle.dn_arc_theory.specs.Kinds.{ArcKind}
use Rattle.dn_arc_theory.specs.declared.arc.Form.{Form}
use Rattle.dn_arc_theory.specs.declared.arc.Form.TheVariants.{One}
use Rattle.dn_arc_theory.specs.State.Bundles.{BundleFacts, IsKind, listed_of, meant}
use Rattle.dn_arc_theory.proofs.OrdersLaws.{same_push}

-- what holds of each element of a list holds of each element of a prefix
all_take : {A : Type 0} (P : A → Type 0) (xs : List A) (n : ℕ) → AllByRecursion P xs → AllByRecursion P (take n xs)
all_take P [] zero h = tt
all_take P [] (suc n) h = tt
all_take P (x ∷ xs) zero h = tt
all_take P (x ∷ xs) (suc n) h = (h.0, all_take P xs n h.1)

all_drop : {A : Type 0} (P : A → Type 0) (xs : List A) (n : ℕ) → AllByRecursion P xs → AllByRecursion P (drop n xs)
all_drop P [] zero h = tt
all_drop P [] (suc n) h = tt
all_drop P (x ∷ xs) zero h = h
all_drop P (x ∷ xs) (suc n) h = all_drop P xs n h.1

pub all_end : {A : Type 0} (P : A → Type 0) (xs : List A) (x : A) → AllByRecursion P xs → P x
    → AllByRecursion P (xs ++ x ∷ [])
all_end P [] x h p = (p, tt)
all_end P (y ∷ xs) x h p = (h.0, all_end P xs x h.1 p)

all_get : {A : Type 0} (P : A → Type 0) (xs : List A) (i : ℕ) (d : A) → i < length xs → AllByRecursion P xs
    → P (get_or xs i d)
all_get P [] i d h a = absurd (omega arith)
all_get P (x ∷ xs) zero d h a = a.0
all_get P (x ∷ xs) (suc i) d h a = all_get P xs i d (omega arith) a.1

module _ {Arc : Type 0} (kind : ArcKind Arc) (laws : IsKind kind) where
  pub none_cap : kind.capacity [] ≤ℤ pos (2 ^ 63 - 1)
  none_cap = omega (arith, ints, laws.capacity_append [] [])

  -- a prefix of the arcs has no more capacity than all arcs
  taken_cap : (arcs : List Arc) (n : ℕ) → AllByRecursion kind.IsArc arcs
      → kind.capacity (take n arcs) ≤ℤ kind.capacity arcs
  taken_cap arcs n a =
      let e = sym (laws.capacity_append (take n arcs) (drop n arcs)) ∙ ap kind.capacity (take-append-drop n arcs) in
      omega (arith, ints, laws.capacity_some (drop n arcs) (all_drop kind.IsArc arcs n a))

  pub next_arc : (arcs : List Arc) (i : ℕ) (arc : Arc) → AllByRecursion kind.IsArc arcs → i < length arcs
      → arc ≡ get_or arcs i arc → kind.IsArc arc
  next_arc arcs i arc a h is = rw is (all_get kind.IsArc arcs i arc h a)

  -- a bundle that represents the arcs so far, and the next arc
  module _ (arcs listed : List Arc) (i : ℕ) (arc : Arc) (a : AllByRecursion kind.IsArc arcs) (h : i < length arcs)
      (is : arc ≡ get_or arcs i arc) (listed_arcs : AllByRecursion kind.IsArc listed)
      (same : kind.Same listed (take i arcs)) where
    next_is : take (i + 1) arcs ≡ take i arcs ++ arc ∷ []
    next_is =
        ap (λ n. take n arcs) (let e : i + 1 ≡ suc i = omega arith in e) ∙ take-suc arcs i arc h
        ∙ ap (λ x. take i arcs ++ x ∷ []) (sym is)

    both_same : kind.Same (listed ++ arc ∷ []) (take (i + 1) arcs)
    both_same = rw next_is (same_push kind.Same laws.meaning listed (take i arcs) arc same)

    pub next_same : (new : List Arc) → kind.Same new (listed ++ arc ∷ []) → kind.Same new (take (i + 1) arcs)
    next_same new s = laws.meaning.same_trans _ _ _ s both_same

    next_cap : kind.capacity (listed ++ arc ∷ []) ≡ kind.capacity (take (i + 1) arcs)
    next_cap =
        laws.same_capacity _ _ (all_end kind.IsArc listed arc listed_arcs (next_arc arcs i arc a h is))
        (all_take kind.IsArc arcs (i + 1) a) both_same

    pub next_fits : (pos (2 ^ 63 - 1) <ℤ kind.capacity (listed ++ arc ∷ []) → ⊥)
        → kind.capacity (take (i + 1) arcs) ≤ℤ pos (2 ^ 63 - 1)
    next_fits n =
        by_lt_z (pos (2 ^ 63 - 1)) (kind.capacity (take (i + 1) arcs))
        (λ lt. absurd (n (rw next_cap lt))) (λ le. le)

    pub too_much : pos (2 ^ 63 - 1) <ℤ kind.capacity (listed ++ arc ∷ []) → pos (2 ^ 63 - 1) <ℤ kind.capacity arcs
    too_much m = omega (arith, ints, taken_cap arcs (i + 1) a, next_cap)

-- where there is no bundle, the capacities with one arc do not sum to more than 2^63-1 if that of the arc is not more
pub fits_alone : {B Arc : Type 0} (bundle : BundleFacts B Arc) (o : Option B) (arc : Arc) → o ≡ None
    → bundle.kind.capacity (arc ∷ []) ≤ℤ pos (2 ^ 63 - 1)
    → pos (2 ^ 63 - 1) <ℤ bundle.kind.capacity (listed_of (meant bundle) o ++ arc ∷ []) → ⊥
fits_alone bundle o arc none fits more =
    let alone : pos (2 ^ 63 - 1) <ℤ bundle.kind.capacity (arc ∷ []) = rw none at more in
    omega (arith, ints)

-- the arcs that a bundle lists may occur in a problem, and so may those of no bundle
pub listed_arcs : {B Arc : Type 0} (bundle : BundleFacts B Arc) → IsKind bundle.kind
    → ((form : Form) (b : B) → bundle.kind.IsCanon form (bundle.listed form b)) → (o : Option B)
    → AllByRecursion bundle.kind.IsArc (listed_of (meant bundle) o)
listed_arcs bundle laws canonical None = tt
listed_arcs bundle laws canonical (Some b) = laws.canon_arcs One (meant bundle b) (canonical One b)
