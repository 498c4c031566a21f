-- Arcs have exactly one least length, if there is an arc. Having the same least length is a meaning, determines
-- canonical arcs, and leaves no difference.
use Rattle.std.proofs.Common.{◌≡◌, ℤ, ◌≤ℤ◌, List, [], ◌∷◌, refl, ◌⊎◌, Option, Some, None, inl, inr, sym, ap, arith}
use Rattle.std.proofs.lemmas.Int.{ints, by_lt_z}
use Rattle.std.specs.List.{AllByRecursion}
use Rattle.std.specs.Int.Signed.{≤ℤ_refl}
use Rattle.dn_arc_theory.specs.declared.arc.LengthArc.{LengthArc}
use Rattle.dn_arc_theory.specs.declared.difference.How.{How}
use Rattle.dn_arc_theory.specs.declared.difference.How.TheVariants.{Lengths, Totals, Costs}
use Rattle.dn_arc_theory.specs.Lengths.{HasLength, LeastLength}
use Rattle.dn_arc_theory.specs.Meanings.{SameLength}
use Rattle.dn_arc_theory.specs.State.Equivalences.{IsMeaning}
use Rattle.dn_arc_theory.specs.Canonical.{AreCanonLengths}
use Rattle.dn_arc_theory.specs.Differences.{IsLengthOf, LengthsDiffer}

-- no arc of the list is shorter
abbrev NoneShorter : List LengthArc → ℤ → Type 0
NoneShorter arcs w = AllByRecursion (λ (a : LengthArc). w ≤ℤ a.length) arcs

none_lower : (xs : List LengthArc) (v w : ℤ) → v ≤ℤ w → NoneShorter xs w → NoneShorter xs v
none_lower [] v w h n = tt
none_lower (a ∷ rest) v w h n = (omega (arith, ints), none_lower rest v w h n.1)

none_has : (xs : List LengthArc) (v w : ℤ) → NoneShorter xs w → HasLength xs v → w ≤ℤ v
none_has [] v w n h = absurd h
none_has (a ∷ rest) v w n (inl e) = rw e at n.0
none_has (a ∷ rest) v w n (inr h) = none_has rest v w n.1 h

-- there is no arc, or there is a least length
pub least_of : (xs : List LengthArc) → (xs ≡ []) ⊎ ((w : ℤ) × LeastLength xs w)
least_of [] = inl refl
least_of (a ∷ rest) =
    elim (least_of rest) [
      | inl e ↦ inr (a.length, record { has = inl refl; least = (≤ℤ_refl a.length, rw e tt) })
      | inr p ↦ by_lt_z p.0 a.length
          (λ lt. let h : p.0 ≤ℤ a.length = omega (arith, ints) in
          inr (p.0, record { has = inr p.1.has; least = (h, p.1.least) }))
          (λ le. inr (
            a.length,
            record
                { has = inl refl; least = (≤ℤ_refl a.length, none_lower rest a.length p.0 le p.1.least) },
          ))
    ]

one_way : (a : LengthArc) (xs ys : List LengthArc) → SameLength xs ys → (w : ℤ) → LeastLength (a ∷ xs) w
    → LeastLength (a ∷ ys) w
one_way a xs ys s w h =
    let n = h.least in
    record {
      has = elim h.has [ inl e ↦ inl e | inr k ↦ inr (s.there w (record { has = k; least = n.1 })).has ];
      least = (
        n.0,
        elim (least_of ys) [
          | inl e ↦ rw e tt
          | inr p ↦ none_lower ys w p.0 (none_has xs p.0 w n.1 (s.back p.0 p.1).has) p.1.least
        ],
      );
    }

flip : (xs ys : List LengthArc) → SameLength xs ys → SameLength ys xs
flip xs ys s = record { there = s.back; back = s.there }

swapped : (a b : LengthArc) (xs : List LengthArc) (w : ℤ) → LeastLength (a ∷ b ∷ xs) w → LeastLength (b ∷ a ∷ xs) w
swapped a b xs w h =
    let n = h.least in
    record {
      has = elim h.has [ inl e ↦ inr (inl e) | inr k ↦ elim k [ inl e ↦ inl e | inr m ↦ inr (inr m) ] ];
      least = (n.1.0, (n.0, n.1.1));
    }

pub length_meaning : IsMeaning SameLength
length_meaning = record {
  same_refl = λ xs. record { there = λ w h. h; back = λ w h. h };
  same_sym = flip;
  same_trans = λ xs ys zs s t. record { there = λ w h. t.there w (s.there w h); back = λ w h. s.back w (t.back w h) };
  same_more = λ a xs ys s. record { there = one_way a xs ys s; back = one_way a ys xs (flip xs ys s) };
  same_swap = λ a b xs. record { there = swapped a b xs; back = swapped b a xs };
}

-- the least length of a single arc
pub lone : (a : LengthArc) → LeastLength (a ∷ []) a.length
lone a = record { has = inl refl; least = (≤ℤ_refl a.length, tt) }

-- canonical arcs of the same least length are equal
pub lengths_determined : (xs ys : List LengthArc) → AreCanonLengths xs → AreCanonLengths ys → SameLength xs ys → xs ≡ ys
lengths_determined [] [] p q s = refl
lengths_determined [] (b ∷ []) p q s = absurd (s.back b.length (lone b)).has
lengths_determined (a ∷ []) [] p q s = absurd (s.there a.length (lone a)).has
lengths_determined (a ∷ []) (b ∷ []) p q s =
    elim (s.there a.length (lone a)).has [
      | inl e ↦ ap (λ (w : ℤ). let x : LengthArc = record { length = w } in x ∷ []) (sym e)
      | inr h ↦ absurd h
    ]
lengths_determined (a ∷ a' ∷ xs) ys p q s = absurd p
lengths_determined xs (b ∷ b' ∷ ys) p q s = absurd q

-- there is at most one least length
pub least_unique : (xs : List LengthArc) (v w : ℤ) → LeastLength xs v → LeastLength xs w → v ≡ w
least_unique xs v w g h = omega (arith, ints, none_has xs v w h.least g.has, none_has xs w v g.least h.has)

no_length : (w : ℤ) → LeastLength [] w → ⊥
no_length w h = h.has

pub length_of_one : (xs : List LengthArc) (v w : Option ℤ) → IsLengthOf xs v → IsLengthOf xs w → v ≡ w
length_of_one xs None None g h = refl
length_of_one xs None (Some w) g h = absurd (no_length w (rw g at h))
length_of_one xs (Some v) None g h = absurd (no_length v (rw h at g))
length_of_one xs (Some v) (Some w) g h = ap Some (least_unique xs v w g h)

-- arcs that mean the same have the same least length, or none
pub length_of_same : (xs ys : List LengthArc) (v : Option ℤ) → SameLength xs ys → IsLengthOf xs v → IsLengthOf ys v
length_of_same xs ys None s h =
    elim (least_of ys) [ inl e ↦ e | inr p ↦ absurd (no_length p.0 (rw (← h) (s.back p.0 p.1))) ]
length_of_same xs ys (Some v) s h = s.there v h

-- arcs of the same least length have no difference
pub lengths_differ : (xs ys : List LengthArc) (how : How) → LengthsDiffer xs ys how → SameLength xs ys → ⊥
lengths_differ xs ys (Lengths left right) d s = d.2 (length_of_one ys left right (length_of_same xs ys left s d.0) d.1)
lengths_differ xs ys (Totals left right) d s = d
lengths_differ xs ys (Costs gap) d s = d

-- a list with an arc does not mean the same as the empty list
pub first_length : (a : LengthArc) (xs : List LengthArc) → SameLength (a ∷ xs) [] → ⊥
first_length a xs s = elim (least_of (a ∷ xs)) [ inl e ↦ cc | inr p ↦ no_length p.0 (s.there p.0 p.1) ]
