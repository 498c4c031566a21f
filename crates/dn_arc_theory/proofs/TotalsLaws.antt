-- Having the same total capacity is a meaning, determines canonical arcs, and leaves no difference.
use Rattle.std.proofs.Common.{◌≡◌, ℤ, ◌+ℤ◌, List, [], ◌∷◌, refl, sym, ap, arith, ◌∙◌}
use Rattle.std.proofs.lemmas.Int.{ints}
use Rattle.dn_arc_theory.specs.declared.arc.CapArc.{CapArc}
use Rattle.dn_arc_theory.specs.declared.difference.How.{How}
use Rattle.dn_arc_theory.specs.declared.difference.How.TheVariants.{Lengths, Totals, Costs}
use Rattle.dn_arc_theory.specs.Capacities.{total_cap}
use Rattle.dn_arc_theory.specs.Meanings.{SameTotal}
use Rattle.dn_arc_theory.specs.State.Equivalences.{IsMeaning}
use Rattle.dn_arc_theory.specs.Canonical.{AreCanonCaps}
use Rattle.dn_arc_theory.specs.Differences.{TotalsDiffer}

pub total_meaning : IsMeaning SameTotal
total_meaning = record {
  same_refl = λ xs. record { is = refl };
  same_sym = λ xs ys s. record { is = sym s.is };
  same_trans = λ xs ys zs s t. record { is = s.is ∙ t.is };
  same_more = λ a xs ys s. record { is = ap (λ z. a.cap +ℤ z) s.is };
  same_swap = λ a b xs. record { is = swap a.cap b.cap (total_cap xs) };
}
  where
    swap : (x y z : ℤ) → x +ℤ (y +ℤ z) ≡ y +ℤ (x +ℤ z)
    swap x y z = omega (arith, ints)

-- canonical arcs of the same total capacity are equal
pub totals_determined : (xs ys : List CapArc) → AreCanonCaps xs → AreCanonCaps ys → SameTotal xs ys → xs ≡ ys
totals_determined [] [] p q s = refl
totals_determined [] (b ∷ []) p q s = absurd (omega (arith, ints))
totals_determined (a ∷ []) [] p q s = absurd (omega (arith, ints))
totals_determined (a ∷ []) (b ∷ []) p q s =
    ap (λ (z : ℤ). let x : CapArc = record { cap = z } in x ∷ []) (let cap : a.cap ≡ b.cap = omega (arith, ints) in cap)
totals_determined (a ∷ a' ∷ xs) ys p q s = absurd p
totals_determined xs (b ∷ b' ∷ ys) p q s = absurd q

-- arcs of the same total capacity have no difference
pub totals_differ : (xs ys : List CapArc) (how : How) → TotalsDiffer xs ys how → SameTotal xs ys → ⊥
totals_differ xs ys (Lengths left right) d s = d
totals_differ xs ys (Totals left right) d s = d.2 (sym d.0 ∙ s.is ∙ d.1)
totals_differ xs ys (Costs gap) d s = d
