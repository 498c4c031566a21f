-- Flows of a whole list of arcs, put together from one flow for each bundle.
use Rattle.std.proofs.Common.{inl, inr, sym, ap, arith, ◌∙◌}
use Rattle.std.proofs.lemmas.Bool.{cases_Bool}
use Rattle.std.proofs.lemmas.Int.{ints}
use Rattle.std.specs.Prelude.{◌≡◌, ℤ, pos, ◌+ℤ◌, ◌≤ℤ◌, List, [], ◌∷◌, Bool, true, cond, refl}
use Rattle.dn_arc_theory.specs.Pairs.{same_pair, bundle}
use Rattle.dn_arc_theory.proofs.PairLaws.{pair_is, pair_self}
use Rattle.dn_answers.specs.Flows.{IsWithin, units_on}
use Rattle.dn_answers.proofs.SumLaws.{Entries, sum_on, sum_eq, sum_le}

-- one number for each arc of a bundle, at least its `low` and at most its `cap`
abbrev pub Shares : {Arc : Type 0} → (Arc → ℤ) → (Arc → ℤ) → List Arc → List ℤ → Type 0
Shares low cap [] [] = Unit {0}
Shares low cap [] (y ∷ ys) = ⊥
Shares low cap (a ∷ rest) [] = ⊥
Shares low cap (a ∷ rest) (y ∷ ys) = (low a ≤ℤ y) × (y ≤ℤ cap a) × Shares low cap rest ys

-- the sum of what each arc's number weighs
abbrev pub weight : {Arc : Type 0} → (Arc → ℤ → ℤ) → List Arc → List ℤ → ℤ
weight each [] ys = pos 0
weight each (a ∷ rest) [] = pos 0
weight each (a ∷ rest) (y ∷ ys) = each a y +ℤ weight each rest ys

-- the numbers of a flow on the bundle of p
abbrev pub part : {Arc : Type 0} → ℤ × ℤ → List ((ℤ × ℤ) × Arc) → List ℤ → List ℤ
part p [] fs = []
part p (a ∷ rest) [] = []
part p (a ∷ rest) (f ∷ fs) = cond (same_pair p a.0) (f ∷ part p rest fs) (part p rest fs)

-- what each arc's number weighs, at its pair
abbrev pub entries : {Arc : Type 0} → (Arc → ℤ → ℤ) → List ((ℤ × ℤ) × Arc) → List ℤ → Entries
entries each [] fs = []
entries each (a ∷ rest) [] = []
entries each (a ∷ rest) (f ∷ fs) = (a.0, each a.1 f) ∷ entries each rest fs

abbrev head_of : List ℤ → ℤ
head_of [] = pos 0
head_of (y ∷ ys) = y

abbrev tail_of : List ℤ → List ℤ
tail_of [] = []
tail_of (y ∷ ys) = ys

-- the split without the number of the arc a
abbrev left : {Arc : Type 0} → (ℤ × ℤ) × Arc → (ℤ × ℤ → List ℤ) → ℤ × ℤ → List ℤ
left a split p = cond (same_pair p a.0) (tail_of (split p)) (split p)

-- the flow that is `split p` on the bundle of each p
abbrev assembled : {Arc : Type 0} → List ((ℤ × ℤ) × Arc) → (ℤ × ℤ → List ℤ) → List ℤ
assembled [] split = []
assembled (a ∷ rest) split = head_of (split a.0) ∷ assembled rest (left a split)

module _ {Arc : Type 0} (low cap : Arc → ℤ) where
  part_shares : (p : ℤ × ℤ) (arcs : List ((ℤ × ℤ) × Arc)) (fs : List ℤ) → IsWithin low cap arcs fs
      → Shares low cap (bundle p arcs) (part p arcs fs)
  part_shares p [] [] h = tt
  part_shares p [] (f ∷ fs) h = absurd h
  part_shares p (a ∷ rest) [] h = absurd h
  part_shares p (a ∷ rest) (f ∷ fs) h = elim (cases_Bool (same_pair p a.0)) [
    | inl t ↦ rw t (h.0, h.1, part_shares p rest fs h.2)
    | inr t ↦ rw t (part_shares p rest fs h.2)
  ]

  -- the split has shares for each bundle
  abbrev Splits : List ((ℤ × ℤ) × Arc) → (ℤ × ℤ → List ℤ) → Type 0
  Splits arcs split = (p : ℤ × ℤ) → Shares low cap (bundle p arcs) (split p)

  -- the share of the first arc, and those of the others
  shared : (a : Arc) (rest : List Arc) (ys : List ℤ) → Shares low cap (a ∷ rest) ys
      → (low a ≤ℤ head_of ys) × (head_of ys ≤ℤ cap a) × Shares low cap rest (tail_of ys)
      × (head_of ys ∷ tail_of ys ≡ ys)
  shared a rest [] h = absurd h
  shared a rest (y ∷ ys) h = (h.0, h.1, h.2, refl)

  rest_splits : (a : (ℤ × ℤ) × Arc) (rest : List ((ℤ × ℤ) × Arc)) (split : ℤ × ℤ → List ℤ) → Splits (a ∷ rest) split
      → Splits rest (left a split)
  rest_splits a rest split s p = elim (cases_Bool (same_pair p a.0)) [
    | inl t ↦ rw t (shared a.1 (bundle p rest) (split p) (rw t at (s p))).2
    | inr t ↦ rw t (rw t at (s p))
  ]

  assembled_within : (arcs : List ((ℤ × ℤ) × Arc)) (split : ℤ × ℤ → List ℤ) → Splits arcs split
      → IsWithin low cap arcs (assembled arcs split)
  assembled_within [] split s = tt
  assembled_within (a ∷ rest) split s =
      let f = shared a.1 (bundle a.0 rest) (split a.0) (rw (pair_self a.0) at (s a.0)) in
      (f.0, f.1, assembled_within rest (left a split) (rest_splits a rest split s))

  assembled_part : (p : ℤ × ℤ) (arcs : List ((ℤ × ℤ) × Arc)) (split : ℤ × ℤ → List ℤ) → Splits arcs split
      → part p arcs (assembled arcs split) ≡ split p
  assembled_part p [] split s = none (split p) (s p)
    where
      none : (ys : List ℤ) → Shares low cap [] ys → [] ≡ ys
      none [] h = refl
      none (y ∷ ys) h = absurd h
  assembled_part p (a ∷ rest) split s =
      let i = assembled_part p rest (left a split) (rest_splits a rest split s) in
      elim (cases_Bool (same_pair p a.0)) [
        | inl t ↦
            let e = rw t at i in
            rw (t, e, ← pair_is p a.0 t) (shared a.1 (bundle p rest) (split p) (rw t at (s p))).3
        | inr t ↦ rw t (rw t at i)
      ]

module _ {Arc : Type 0} (each : Arc → ℤ → ℤ) where
  no_weight : (arcs : List Arc) → pos 0 ≡ weight each arcs []
  no_weight [] = refl
  no_weight (a ∷ rest) = refl

  -- the entries of p weigh what the part of p weighs
  part_weight : (p : ℤ × ℤ) (arcs : List ((ℤ × ℤ) × Arc)) (fs : List ℤ)
      → sum_on (same_pair p) (entries each arcs fs) ≡ weight each (bundle p arcs) (part p arcs fs)
  part_weight p [] fs = refl
  part_weight p (a ∷ rest) [] = no_weight (bundle p (a ∷ rest))
  part_weight p (a ∷ rest) (f ∷ fs) = elim (cases_Bool (same_pair p a.0)) [
    | inl t ↦ rw (t, part_weight p rest fs)
    | inr t ↦ rw t (omega (arith, ints, part_weight p rest fs))
  ]

-- what the entries weigh on chosen pairs
units_sum : {Arc : Type 0} (chosen : ℤ × ℤ → Bool) (arcs : List ((ℤ × ℤ) × Arc)) (fs : List ℤ)
    → units_on chosen arcs fs ≡ sum_on chosen (entries (λ a f. f) arcs fs)
units_sum chosen [] fs = refl
units_sum chosen (a ∷ rest) [] = refl
units_sum chosen (a ∷ rest) (f ∷ fs) = rw (units_sum chosen rest fs)

-- a flow of ys that has the same units on each kept pair as the flow fs of xs, and does not cost more
pub record Matched {Arc : Type 0} (low cap : Arc → ℤ) (cost : Arc → ℤ → ℤ) (kept : ℤ × ℤ → Bool)
    (xs ys : List ((ℤ × ℤ) × Arc)) (fs : List ℤ) : Type 0 where
  pub flow : List ℤ
  pub within : IsWithin low cap ys flow
  pub units : (chosen : ℤ × ℤ → Bool) → ((p : ℤ × ℤ) → chosen p ≡ true → kept p ≡ true)
      → units_on chosen xs fs ≡ units_on chosen ys flow
  pub cost_is : (chosen : ℤ × ℤ → Bool)
      → sum_on chosen (entries cost ys flow) ≤ℤ sum_on chosen (entries cost xs fs)

-- shares of the arcs ys that do not cost more than the shares zs of the arcs xs, and if these are kept, have the same
-- sum
pub record Carried {Arc : Type 0} (low cap : Arc → ℤ) (cost : Arc → ℤ → ℤ) (kept : Bool) (xs ys : List Arc)
    (zs : List ℤ) : Type 0 where
  pub split : List ℤ
  pub shares : Shares low cap ys split
  pub same : kept ≡ true → weight (λ (a : Arc) f. f) xs zs ≡ weight (λ (a : Arc) f. f) ys split
  pub cost_is : weight cost ys split ≤ℤ weight cost xs zs

-- if the bundles carry no less, a flow is matched
pub matched : {Arc : Type 0} (low cap : Arc → ℤ) (cost : Arc → ℤ → ℤ) (kept : ℤ × ℤ → Bool)
    (xs ys : List ((ℤ × ℤ) × Arc))
    → ((p : ℤ × ℤ) (zs : List ℤ) → Shares low cap (bundle p xs) zs
    → Carried low cap cost (kept p) (bundle p xs) (bundle p ys) zs)
    → (fs : List ℤ) → IsWithin low cap xs fs → Matched low cap cost kept xs ys fs
matched {Arc} low cap cost kept xs ys carry fs h = record {
  flow = assembled ys split;
  within = assembled_within low cap ys split splits;
  units = λ chosen within.
      units_sum chosen xs fs
      ∙ sum_eq (entries units xs fs) (entries units ys (assembled ys split)) chosen (λ p e.
      part_weight units p xs fs ∙ (at p).same (within p e) ∙ sym (there units p))
      ∙ sym (units_sum chosen ys (assembled ys split));
  cost_is = λ chosen. sum_le (entries cost ys (assembled ys split)) (entries cost xs fs) chosen (λ p e.
      omega (arith, ints, part_weight cost p xs fs, there cost p, (at p).cost_is));
}
  where
    units : Arc → ℤ → ℤ
    units a f = f

    at : (p : ℤ × ℤ) → Carried low cap cost (kept p) (bundle p xs) (bundle p ys) (part p xs fs)
    at p = carry p (part p xs fs) (part_shares low cap p xs fs h)

    split : ℤ × ℤ → List ℤ
    split p = (at p).split

    splits : Splits low cap ys split
    splits p = (at p).shares

    there : (each : Arc → ℤ → ℤ) (p : ℤ × ℤ)
        → sum_on (same_pair p) (entries each ys (assembled ys split)) ≡ weight each (bundle p ys) (split p)
    there each p =
        part_weight each p ys (assembled ys split)
        ∙ ap (weight each (bundle p ys)) (assembled_part low cap p ys split splits)
