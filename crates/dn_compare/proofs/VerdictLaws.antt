-- Lemmas on the first difference: there is at most one, it depends on the meaning, and it can be exchanged.
use Rattle.std.proofs.Common.{◌≡◌, inl, inr, refl}
use Rattle.dn_instance.specs.Instances.{Instance}
use Rattle.dn_instance.specs.Sameness.{IsSame}
use Rattle.dn_instance.proofs.SameLaws.{sym_of}
use Rattle.dn_compare.specs.FirstDifference.{IsFirstDifference, StandsEarlier, place_of}
use Rattle.dn_instance.specs.State.Turned.{turned}
use Rattle.dn_instance.specs.declared.verdict.Verdict.{Verdict}
use Rattle.dn_instance.specs.declared.verdict.Verdict.TheVariants as Verdicts
use Rattle.dn_compare.proofs.PlaceLaws.{which_first}
use Rattle.dn_compare.proofs.TruthLaws.{one_at, true_by_meaning, true_turned}

-- two instances have at most one first difference
pub one_first : (I J : Instance) (v w : Verdict) → IsFirstDifference I J v → IsFirstDifference I J w → v ≡ w
one_first I J v w f g = elim (which_first v w) [
  | inl e ↦ absurd (g.none_earlier v e f.true_of)
  | inr h ↦ elim h [ inl e ↦ absurd (f.none_earlier w e g.true_of) | inr e ↦ one_at I J v w f.true_of g.true_of e ]
]

-- no verdict is earlier than `Same`
none_before_same : (w : Verdict) → StandsEarlier w Verdicts.Same → ⊥
none_before_same Verdicts.Same e = cc
none_before_same _ e = cc

-- the first difference of instances that are the same problem is `Same`
pub same_first : (I J : Instance) → IsSame I J → IsFirstDifference I J Verdicts.Same
same_first I J e = record { true_of = e; none_earlier = λ w lt t. none_before_same w lt }

-- the first difference depends only on the meanings
pub first_by_meaning : (I I' J J' : Instance) (v : Verdict) → IsSame I I' → IsSame J J' → IsFirstDifference I J v
    → IsFirstDifference I' J' v
first_by_meaning I I' J J' v e f h = record {
  true_of = true_by_meaning I I' J J' v e f h.true_of;
  none_earlier = λ w lt t. h.none_earlier w lt (true_by_meaning I' I J' J w (sym_of I I' e) (sym_of J J' f) t);
}

place_turned : (v : Verdict) → place_of (turned v) ≡ place_of v
place_turned Verdicts.Same = refl
place_turned _ = refl

-- the first difference in the other order is the exchanged one
pub first_turned : (I J : Instance) (v : Verdict) → IsFirstDifference I J v → IsFirstDifference J I (turned v)
first_turned I J v h = record {
  true_of = true_turned I J v h.true_of;
  none_earlier = λ w lt t. h.none_earlier (turned w) (rw (place_turned w, ← place_turned v) lt) (true_turned J I w t);
}
