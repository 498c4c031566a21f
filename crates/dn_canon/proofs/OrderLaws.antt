-- Lemmas that arcs sorted by pair are determined by the arcs of each pair.
use Rattle.std.proofs.Common.{inl, inr, ◌≡◌, ℤ, List, [], ◌∷◌, Bool, true, false, cond, refl, sym, ap, ◌∙◌, IsTrue}
use Rattle.std.specs.List.{AllByRecursion}
use Rattle.std.specs.Ordering.{is_eq, is_le}
use Rattle.std.specs.declared.cmp.Ordering.{Ordering}
use Rattle.std.specs.declared.cmp.Ordering.TheVariants.{Less, Equal, Greater}
use Rattle.std.proofs.lemmas.Bool.{cases_Bool}
use Rattle.dn_arc_theory.proofs.PairLaws.{pair_is, pair_self, pair_total, reversed}
use Rattle.dn_arc_theory.specs.Pairs.{bundle, pair_cmp, pair_le, same_pair}
use Rattle.dn_canon.specs.CanonInstances.{AreInOrder}

-- if p comes after q, q comes before p
flipped : (p q : ℤ × ℤ) → pair_cmp p q ≡ Greater → pair_cmp q p ≡ Less
flipped p q e = reversed (pair_cmp q p) (sym e ∙ pair_total.antisymm p q)

-- a pair before k is before each pair that is not before k
before_less : (p k q : ℤ × ℤ) → pair_cmp p k ≡ Less → pair_le k q ≡ true → pair_cmp p q ≡ Less
before_less p k q h n = by_order (pair_cmp k q) refl n
  where
    by_order : (o : Ordering) → pair_cmp k q ≡ o → is_le o ≡ true → pair_cmp p q ≡ Less
    by_order Less e t = pair_total.trans p k q h e
    by_order Equal e t = rw (← pair_is k q (ap is_eq e)) h
    by_order Greater e t = cc

module _ {Arc : Type 0} where
  -- no arc is at a pair before k
  abbrev pub NoneBefore : ℤ × ℤ → List ((ℤ × ℤ) × Arc) → Type 0
  NoneBefore p xs = AllByRecursion (λ b. IsTrue (pair_le p b.0)) xs

  -- a pair before k has no arcs, if no arc is before k
  none_at : (p k : ℤ × ℤ) (ys : List ((ℤ × ℤ) × Arc)) → pair_cmp p k ≡ Less → NoneBefore k ys → bundle p ys ≡ []
  none_at p k [] h n = refl
  none_at p k (b ∷ ys) h n = rw (before_less p k b.0 h n.0) (none_at p k ys h n.1)

  -- the arcs at the first arc's pair begin with this arc
  pub at_head : (a : (ℤ × ℤ) × Arc) (xs : List ((ℤ × ℤ) × Arc)) → bundle a.0 (a ∷ xs) ≡ a.1 ∷ bundle a.0 xs
  at_head a xs = rw (pair_self a.0)

  -- what holds of each arc holds of the arcs of each pair
  pub all_at_pair : (P : (ℤ × ℤ) × Arc → Type 0) (Q : Arc → Type 0) → ((a : (ℤ × ℤ) × Arc) → P a → Q a.1)
      → (q : ℤ × ℤ) (arcs : List ((ℤ × ℤ) × Arc)) → AllByRecursion P arcs → AllByRecursion Q (bundle q arcs)
  all_at_pair P Q h q [] all = tt
  all_at_pair P Q h q (a ∷ rest) all =
      let more = all_at_pair P Q h q rest all.1 in
      elim (cases_Bool (same_pair q a.0)) [ inl e ↦ rw e (h a all.0, more) | inr e ↦ rw e more ]

  -- the first pair of a sorted list is not before that of another with the same arcs at each pair
  not_less : (a b : (ℤ × ℤ) × Arc) (xs ys : List ((ℤ × ℤ) × Arc)) → AreInOrder (b ∷ ys)
      → bundle a.0 (a ∷ xs) ≡ bundle a.0 (b ∷ ys) → pair_cmp a.0 b.0 ≡ Less → ⊥
  not_less a b xs ys s h e = cc (rw (at_head a xs, e, none_at a.0 b.0 ys e s.0) at h)

  -- two sorted lists with the same arcs at each pair begin at the same pair
  same_key : (a b : (ℤ × ℤ) × Arc) (xs ys : List ((ℤ × ℤ) × Arc)) → AreInOrder (a ∷ xs) → AreInOrder (b ∷ ys)
      → ((q : ℤ × ℤ) → bundle q (a ∷ xs) ≡ bundle q (b ∷ ys)) → (o : Ordering) → pair_cmp a.0 b.0 ≡ o → a.0 ≡ b.0
  same_key a b xs ys r s h Less e = absurd (not_less a b xs ys s (h a.0) e)
  same_key a b xs ys r s h Equal e = pair_is a.0 b.0 (ap is_eq e)
  same_key a b xs ys r s h Greater e = absurd (not_less b a ys xs r (sym (h b.0)) (flipped a.0 b.0 e))

  -- two lists have the same rest if prepending elements under the same condition makes them equal
  rest_one : (t : Bool) (x : Arc) (xs ys : List Arc) → cond t (x ∷ xs) xs ≡ cond t (x ∷ ys) ys → xs ≡ ys
  rest_one true x xs ys e = cc
  rest_one false x xs ys e = e

  -- two sorted lists with the same arcs at each pair are equal
  pub order_one : (xs ys : List ((ℤ × ℤ) × Arc)) → AreInOrder xs → AreInOrder ys
      → ((q : ℤ × ℤ) → bundle q xs ≡ bundle q ys) → xs ≡ ys
  order_one [] [] r s h = refl
  order_one [] (b ∷ ys) r s h = cc (rw at_head at (h b.0))
  order_one (a ∷ xs) [] r s h = cc (rw at_head at (h a.0))
  order_one (a ∷ xs) (b ∷ ys) r s h =
      let key : a.0 ≡ b.0 = same_key a b xs ys r s h (pair_cmp a.0 b.0) refl in
      let heads : a.1 ∷ bundle a.0 xs ≡ b.1 ∷ bundle b.0 ys =
      sym (at_head a xs) ∙ h a.0 ∙ ap (λ p. bundle p (b ∷ ys)) key ∙ at_head b ys in
      let arc : a.1 ≡ b.1 = cc in
      let here : a ≡ b = λ i. (key i, arc i) in
      let rest = order_one xs ys r.1 s.1
      (λ q. rest_one (same_pair q a.0) a.1 _ _ (h q ∙ ap (λ (c : (ℤ × ℤ) × Arc). bundle q (c ∷ ys)) (sym here))) in
      λ i. here i ∷ rest i
