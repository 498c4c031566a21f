-- Ordered pairs as keys, and their arcs.
use Rattle.std.proofs.Common.{inl, inr, ◌≡◌, ℤ, List, [], ◌∷◌, ◌++◌, true, cond, refl, Ordering, Less, Equal, Greater}
use Rattle.std.specs.Ordering.{int_cmp, is_eq, ordering_reverse}
use Rattle.std.specs.Cmp.{IsTotalOrder, IsEquivalence}
use Rattle.std.proofs.lemmas.Bool.{cases_Bool}
use Rattle.std.proofs.lemmas.Cmp.{int_cmp_total, then_total, on_total, eq_by_cmp_equiv}
use Rattle.std.proofs.lemmas.Map.Lookups.{exact_pairs, exact_signed}
use Rattle.dn_arc_theory.specs.Pairs.{bundle, pair_cmp, same_pair}

-- an ordering that tests as equal is `Equal`
pub equal_is : (o : Ordering) → is_eq o ≡ true → o ≡ Equal
equal_is Equal h = refl
equal_is o h = cc

-- pairs that compare equal are equal
pub pair_is : (p q : ℤ × ℤ) → same_pair p q ≡ true → p ≡ q
pair_is p q h = exact_pairs int_cmp int_cmp exact_signed exact_signed p q (equal_is (pair_cmp p q) h)

-- an ordering that is its own reverse is `Equal`
pub self_equal : (o : Ordering) → o ≡ ordering_reverse o → o ≡ Equal
self_equal Equal e = refl
self_equal o e = cc

-- an ordering whose reverse is `Greater` is `Less`
pub reversed : (o : Ordering) → Greater ≡ ordering_reverse o → o ≡ Less
reversed Less e = refl
reversed o e = cc

-- a number compares equal to itself
pub int_self : (z : ℤ) → int_cmp z z ≡ Equal
int_self z = self_equal (int_cmp z z) (int_cmp_total.antisymm z z)

-- a pair is the same as itself
pub pair_self : (p : ℤ × ℤ) → same_pair p p ≡ true
pair_self p = rw (int_self p.0, int_self p.1) refl

-- the order of pairs is total
pub pair_total : IsTotalOrder pair_cmp
pair_total = then_total (on_total (λ (p : ℤ × ℤ). p.0) int_cmp_total) (on_total (λ (p : ℤ × ℤ). p.1) int_cmp_total)

-- `same_pair` is an equivalence
pub pair_equiv : IsEquivalence same_pair
pair_equiv = eq_by_cmp_equiv pair_total

module _ {Arc : Type 0} where
  -- the bundle of a pair with one more arc
  pub bundle_push : (p : ℤ × ℤ) (xs : List ((ℤ × ℤ) × Arc)) (a : (ℤ × ℤ) × Arc)
      → bundle p (xs ++ a ∷ []) ≡ bundle p xs ++ cond (same_pair p a.0) (a.1 ∷ []) []
  bundle_push p [] a = refl
  bundle_push p (x ∷ xs) a = elim (cases_Bool (same_pair p x.0)) [
    | inl t ↦ rw (t, bundle_push p xs a)
    | inr t ↦ rw (t, bundle_push p xs a)
  ]
