-- Ordered pairs as keys.
use Rattle.std.proofs.Common.{inl, inr, ◌≡◌, ℤ, false, to_z, of_z, w64, FitsSigned}
use Rattle.std.proofs.lemmas.Bool.{cases_Bool}
use Rattle.std.proofs.lemmas.Int.{to_z-of_z}
use Rattle.dn_arc_theory.specs.Pairs.{same_pair}
use Rattle.dn_arc_theory.proofs.PairLaws.{pair_is, pair_self}

-- a key does not change when a call passes it
pub key_is : (u v : ℤ) → FitsSigned w64 u → FitsSigned w64 v → (P : ℤ × ℤ → Type 0)
    → P (to_z w64 (of_z w64 u), to_z w64 (of_z w64 v)) → P (u, v)
key_is u v p q P h = simp to_z-of_z at h

-- two pairs differ in both directions
pub other_pair : (p q : ℤ × ℤ) → same_pair p q ≡ false → same_pair q p ≡ false
other_pair p q h = elim (cases_Bool (same_pair q p)) [ inl e ↦ cc (rw (pair_is q p e, pair_self) at h) | inr e ↦ e ]
