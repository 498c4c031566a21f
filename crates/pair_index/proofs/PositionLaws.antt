-- Keys at their positions.
use Rattle.std.proofs.Common.{inl, inr, slice_get, ◌≡◌, ℕ, suc, ◌<◌, ℤ, pos, List, [], ◌∷◌, length, false, Some, refl, sym, ◌∙◌, arith}
use Rattle.std.specs.List.{list_any}
use Rattle.std.proofs.lemmas.Bool.{cases_Bool, false≢true}
use Rattle.std.proofs.lemmas.Map.Keys.{any_passes_from_place}
use Rattle.std.proofs.lemmas.Option.{slice_get-get_or}
use Rattle.dn_arc_theory.specs.Pairs.{same_pair}
use Rattle.dn_arc_theory.proofs.PairLaws.{pair_is, pair_self}
use Rattle.pair_index.specs.State.Positions.{key_at}

-- a pair that is at no position is not among the keys
pub none_from_positions : (p : ℤ × ℤ) (keys : List (ℤ × ℤ)) → ((i : ℕ) → i < length keys → key_at keys i ≡ p → ⊥)
    → list_any (same_pair p) keys ≡ false
none_from_positions p [] never = refl
none_from_positions p (k ∷ keys) never = elim (cases_Bool (same_pair p k)) [
  | inl e ↦ absurd (never 0 (omega arith) (sym (pair_is p k e)))
  | inr e ↦ rw (e, none_from_positions p keys (λ i lt f. never (suc i) (omega arith) f))
]

-- a pair that is not among the keys is at no position
pub fresh_at : (k : ℤ × ℤ) (keys : List (ℤ × ℤ)) (i : ℕ) → list_any (same_pair k) keys ≡ false → i < length keys
    → key_at keys i ≡ k → ⊥
fresh_at k keys i fresh lt e =
    let at : slice_get keys i ≡ Some k = rw e at (slice_get-get_or keys i (pos 0, pos 0) lt) in
    false≢true (sym fresh ∙ any_passes_from_place (same_pair k) keys i k at (pair_self k))
