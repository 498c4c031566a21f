-- Lemmas that the ordered pairs of arcs can be listed once each, by ascending pair.
use Rattle.std.proofs.Common.{◌≡◌, ◌⊎◌, inl, inr, ℤ, List, [], ◌∷◌, Some, None, refl, sym, ap}
use Rattle.std.proofs.lemmas.Bool.{cases_Bool}
use Rattle.std.specs.BTreeMap.{insert_entry}
use Rattle.std.specs.List.Sorted.{IsStrictlySortedBy}
use Rattle.std.specs.Map.{keys_of, lookup}
use Rattle.dn_arc_theory.specs.Pairs.{bundle, pair_cmp, same_pair}
use Rattle.dn_arc_theory.proofs.PairLaws.{pair_is, pair_total}
use Rattle.dn_instance.proofs.MapLaws.{no_keys, put_found, ascending_put}
use Rattle.dn_compare.proofs.ArcPartings.{exact_pair}

-- the pairs of the arcs, once each and by ascending pair; each pair is its own key
abbrev pub pairs_of : {Arc : Type 0} → List ((ℤ × ℤ) × Arc) → List ((ℤ × ℤ) × (ℤ × ℤ))
pairs_of [] = []
pairs_of (a ∷ rest) = insert_entry pair_cmp (pairs_of rest) a.0 a.0

module _ {Arc : Type 0} where
  pub pairs_ascending : (arcs : List ((ℤ × ℤ) × Arc)) → IsStrictlySortedBy pair_cmp (keys_of (pairs_of arcs))
  pairs_ascending [] = no_keys pair_cmp
  pairs_ascending (a ∷ rest) = ascending_put pair_cmp a.0 a.0 pair_total (pairs_of rest) (pairs_ascending rest)

  -- a pair is found, or has no arcs
  pub pair_found : (p : ℤ × ℤ) (arcs : List ((ℤ × ℤ) × Arc))
      → (lookup (same_pair p) (pairs_of arcs) ≡ Some p)
      ⊎ ((lookup (same_pair p) (pairs_of arcs) ≡ None) × (bundle p arcs ≡ []))
  pair_found p [] = inr (refl, refl)
  pair_found p (a ∷ rest) =
      let found = put_found pair_cmp pair_total exact_pair p a.0 a.0 (pairs_of rest) in
      elim (cases_Bool (same_pair p a.0)) [
        | inl t ↦ inl (rw (found, t) (ap Some (sym (pair_is p a.0 t))))
        | inr t ↦ rw (found, t) (pair_found p rest)
      ]
