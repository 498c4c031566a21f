-- Lemmas on the order of verdicts.
use Rattle.std.proofs.Common.{◌≡◌, ◌⊎◌, inl, inr, ℤ, refl, ap, ◌∙◌}
use Rattle.std.specs.Cmp.{IsTotalOrder}
use Rattle.std.specs.Ordering.{int_cmp, ordering_reverse}
use Rattle.std.specs.declared.cmp.Ordering.{Ordering}
use Rattle.std.specs.declared.cmp.Ordering.TheVariants.{Less, Equal, Greater}
use Rattle.std.proofs.lemmas.Cmp.{then_total, on_total, int_cmp_total}
use Rattle.std.proofs.lemmas.Map.Lookups.{exact_pairs, exact_signed}
use Rattle.dn_arc_theory.specs.Pairs.{pair_cmp}
use Rattle.dn_arc_theory.proofs.PairLaws.{pair_total}
use Rattle.dn_compare.specs.FirstDifference.{place_cmp, place_of, StandsEarlier}
use Rattle.dn_instance.specs.declared.verdict.Verdict.{Verdict}

place_total : IsTotalOrder place_cmp
place_total =
    then_total (on_total (λ (p : ℤ × (ℤ × ℤ)). p.0) int_cmp_total) (on_total (λ (p : ℤ × (ℤ × ℤ)). p.1) pair_total)

place_is : (p q : ℤ × (ℤ × ℤ)) → place_cmp p q ≡ Equal → p ≡ q
place_is p q e = exact_pairs int_cmp pair_cmp exact_signed (exact_pairs int_cmp int_cmp exact_signed exact_signed) p q e

-- of two verdicts one is earlier, or both have the same place
pub which_first : (v w : Verdict) → StandsEarlier v w ⊎ StandsEarlier w v ⊎ (place_of v ≡ place_of w)
which_first v w = by_order (place_cmp (place_of v) (place_of w)) refl
  where
    by_order : (o : Ordering) → place_cmp (place_of v) (place_of w) ≡ o
        → StandsEarlier v w ⊎ StandsEarlier w v ⊎ (place_of v ≡ place_of w)
    by_order Less e = inl e
    by_order Equal e = inr (inr (place_is (place_of v) (place_of w) e))
    by_order Greater e = inr (inl (place_total.antisymm (place_of w) (place_of v) ∙ ap ordering_reverse e))
