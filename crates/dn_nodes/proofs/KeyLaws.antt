-- Entries with ascending keys: look-ups, insertions and appended lists.
use Rattle.std.proofs.Common.{inl, inr, ◌≡◌, ℤ, List, [], ◌∷◌, ◌++◌, Bool, true, false, Some, None, refl, sym, ◌∙◌, arith, ◌<ℤ◌, Less, Greater, int_cmp}
use Rattle.std.specs.List.{AllByRecursion}
use Rattle.std.specs.List.Sorted.{IsStrictlySortedBy}
use Rattle.std.specs.BTreeMap.{insert_entry}
use Rattle.std.specs.Map.{keys_of, lookup, set_value}
use Rattle.std.proofs.lemmas.Bool.{cases_Bool}
use Rattle.std.proofs.lemmas.Int.{ints}
use Rattle.std.proofs.lemmas.Cmp.{int_cmp_total}
use Rattle.std.proofs.lemmas.Map.Keys.{sorted_head, sorted_tail}
use Rattle.std.proofs.lemmas.Map.Lookups.{exact_signed}
use Rattle.dn_arc_theory.proofs.PairLaws.{equal_is, int_self, reversed}
use Rattle.dn_arc_theory.proofs.CanonsLaws.{by_cmp}
use Rattle.dn_nodes.specs.State.Nodes.{at, Ascends}

-- a key is itself
pub at_self : (k : ℤ) → at k k ≡ true
at_self k = rw (int_self k) refl

-- a key that passes the test of another is the other
pub at_is : (k l : ℤ) → at k l ≡ true → k ≡ l
at_is k l h = exact_signed k l (equal_is (int_cmp k l) h)

pub at_flip : (k l : ℤ) → at k l ≡ false → at l k ≡ false
at_flip k l h = elim (cases_Bool (at l k)) [ inl e ↦ cc (rw (at_is l k e, at_self k) at h) | inr e ↦ e ]

pub at_less : (k l : ℤ) → int_cmp k l ≡ Less → at k l ≡ false
at_less k l h = rw h refl

-- what is below a key is not above it
pub at_more : (k l : ℤ) → int_cmp l k ≡ Less → at k l ≡ false
at_more k l h = at_flip l k (at_less l k h)

-- comparing a head with that of a lesser entry
pub past : (head x : ℤ) → x <ℤ head → int_cmp head x ≡ Greater
past head x h =
    by_cmp head x (λ c lt. absurd (omega (arith, ints))) (λ c eq. absurd (omega (arith, ints))) (λ c gt. c)

pub before : (head x : ℤ) → head <ℤ x → int_cmp head x ≡ Less
before head x h =
    by_cmp head x (λ c lt. c) (λ c eq. absurd (omega (arith, ints))) (λ c gt. absurd (omega (arith, ints)))

pub ascends_none : (X : Type 0) → Ascends {V = X} []
unfolding IsStrictlySortedBy
ascends_none X = tt

module _ {X : Type 0} where
  -- all keys are above this one
  abbrev pub Above : ℤ → List (ℤ × X) → Type 0
  Above k es = AllByRecursion (λ (y : ℤ). int_cmp k y ≡ Less) (keys_of es)

  pub ascends_cons : (e : ℤ × X) (es : List (ℤ × X)) → Above e.0 es → Ascends es → Ascends (e ∷ es)
  unfolding IsStrictlySortedBy
  ascends_cons e es a r = (a, r)

  pub ascends_head : (e : ℤ × X) (es : List (ℤ × X)) → Ascends (e ∷ es) → Above e.0 es
  ascends_head e es r = sorted_head int_cmp e.0 (keys_of es) r

  pub ascends_tail : (e : ℤ × X) (es : List (ℤ × X)) → Ascends (e ∷ es) → Ascends es
  ascends_tail e es r = sorted_tail int_cmp e.0 (keys_of es) r

  pub above_trans : (k l : ℤ) (es : List (ℤ × X)) → int_cmp k l ≡ Less → Above l es → Above k es
  above_trans k l [] h a = tt
  above_trans k l (e ∷ es) h a = (int_cmp_total.trans k l e.0 h a.0, above_trans k l es h a.1)

  pub above_insert : (k key : ℤ) (v : X) (es : List (ℤ × X)) → int_cmp k key ≡ Less → Above k es
      → Above k (insert_entry int_cmp es key v)
  above_insert k key v [] h a = (h, tt)
  above_insert k key v (e ∷ es) h a =
      by_cmp key e.0 (λ c lt. rw c (h, a)) (λ c eq. rw c a) (λ c gt. rw c (a.0, above_insert k key v es h a.1))

  -- an insertion keeps the keys ascending
  pub insert_ascends : (es : List (ℤ × X)) (k : ℤ) (v : X) → Ascends es → Ascends (insert_entry int_cmp es k v)
  insert_ascends [] k v r = ascends_cons (k, v) [] tt r
  insert_ascends (e ∷ es) k v r =
      by_cmp k e.0
      (λ c lt. rw c (ascends_cons (k, v) (e ∷ es) (c, above_trans k e.0 es c (ascends_head e es r)) r))
      (λ c eq. rw c (ascends_cons (e.0, v) es (ascends_head e es r) (ascends_tail e es r)))
      (λ c gt. rw c
      (ascends_cons e (insert_entry int_cmp es k v)
      (above_insert e.0 k v es (reversed (int_cmp e.0 k) (sym c ∙ int_cmp_total.antisymm k e.0)) (ascends_head e es r))
      (insert_ascends es k v (ascends_tail e es r))))

  -- the look-up of the inserted key, and of others
  pub insert_found : (es : List (ℤ × X)) (k : ℤ) (v : X) → lookup (at k) (insert_entry int_cmp es k v) ≡ Some v
  insert_found [] k v = rw (at_self k) refl
  insert_found (e ∷ es) k v =
      by_cmp k e.0 (λ c lt. rw (c, int_self k) refl) (λ c eq. rw (c, c) refl) (λ c gt. rw (c, c) (insert_found es k v))

  pub insert_other : (es : List (ℤ × X)) (k : ℤ) (v : X) (h : ℤ) → at k h ≡ false
      → lookup (at h) (insert_entry int_cmp es k v) ≡ lookup (at h) es
  insert_other [] k v h apart = rw (at_flip k h apart) refl
  insert_other (e ∷ es) k v h apart =
      let back = at_flip k h apart in
      by_cmp k e.0 (λ c lt. rw (c, back) refl) (λ c eq. rw c (rw (← eq, back) refl))
      (λ c gt. rw (c, insert_other es k v h apart) refl)

  pub lookup_left : (t : ℤ → Bool) (xs ys : List (ℤ × X)) (v : X) → lookup t xs ≡ Some v
      → lookup t (xs ++ ys) ≡ Some v
  lookup_left t [] ys v h = cc
  lookup_left t (x ∷ xs) ys v h = elim (cases_Bool (t x.0)) [
    | inl e ↦ rw e (rw e at h)
    | inr e ↦ rw e (lookup_left t xs ys v (rw e at h))
  ]

  pub lookup_right : (t : ℤ → Bool) (xs ys : List (ℤ × X)) → lookup t xs ≡ None → lookup t (xs ++ ys) ≡ lookup t ys
  lookup_right t [] ys h = refl
  lookup_right t (x ∷ xs) ys h = elim (cases_Bool (t x.0)) [
    | inl e ↦ cc (rw e at h)
    | inr e ↦ rw e (lookup_right t xs ys (rw e at h))
  ]

  -- a key below all others has no entry
  pub above_none : (k : ℤ) (es : List (ℤ × X)) → Above k es → lookup (at k) es ≡ None
  above_none k [] a = refl
  above_none k (e ∷ es) a = rw (at_less k e.0 a.0) (above_none k es a.1)

  pub ascends_right : (xs ys : List (ℤ × X)) → Ascends (xs ++ ys) → Ascends ys
  ascends_right [] ys r = r
  ascends_right (x ∷ xs) ys r = ascends_right xs ys (ascends_tail x (xs ++ ys) r)

  -- changing the value of a key that is there is an insertion
  pub set_is : (es : List (ℤ × X)) (k : ℤ) (v w : X) → Ascends es → lookup (at k) es ≡ Some v
      → set_value (at k) es w ≡ insert_entry int_cmp es k w
  set_is [] k v w r h = cc
  set_is (e ∷ es) k v w r h =
      by_cmp k e.0
      (λ c lt. cc (rw (at_less k e.0 c, above_none k es (above_trans k e.0 es c (ascends_head e es r))) at h))
      (λ c eq. rw c refl) (λ c gt. rw (c, set_is es k v w (ascends_tail e es r) (rw c at h)) refl)

  -- a key below all others is inserted at the beginning
  pub insert_first : (es : List (ℤ × X)) (k : ℤ) (w : X) → Above k es → insert_entry int_cmp es k w ≡ (k, w) ∷ es
  insert_first [] k w a = refl
  insert_first (e ∷ es) k w a = rw a.0 refl
