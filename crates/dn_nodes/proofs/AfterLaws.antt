-- The entries after a node.
use Rattle.std.proofs.Common.{inl, inr, ◌≡◌, ℕ, zero, suc, ◌+◌, ◌≤◌, ◌⊎◌, ℤ, pos, ◌<ℤ◌, ◌≤ℤ◌, ◌+ℤ◌, List, [], ◌∷◌, ◌++◌, Option, Some, None, true, false, drop, length, refl, sym, ap, ◌∙◌, arith, int_cmp, drop_of_length-le, min}
use Rattle.std.proofs.Math.Nat.{min-eq_left, min_comm}
use Rattle.std.specs.Ordering.{is_lt}
use Rattle.std.proofs.lemmas.Bool.{cases_Bool, cases_lt}
use Rattle.std.proofs.lemmas.Int.{ints, by_lt_z}
use Rattle.std.proofs.lemmas.List.Elements.{filter-append}
use Rattle.dn_arc_theory.proofs.CanonsLaws.{by_cmp}
use Rattle.std.specs.BTreeMap.Range.{entries_between}
use Rattle.std.specs.declared.ops.Bound.TheVariants.{Unbounded}
use Rattle.dn_nodes.specs.State.Links.{direct, direct_from, valued, value_at, with_value}
use Rattle.dn_nodes.specs.State.Nodes.{after}
use Rattle.dn_nodes.proofs.KeyLaws.{Above}
use Rattle.dn_nodes.proofs.LinkLaws.{direct_low}
use Rattle.dn_nodes.proofs.WalkLaws.{from_is}

module _ {X : Type 0} where
  -- all entries are after a node that is below all
  pub all_after : (k : ℤ) (es : List (ℤ × X)) → Above k es → after k es ≡ es
  all_after k [] a = refl
  all_after k (e ∷ es) a = rw a.0 (ap (λ l. e ∷ l) (all_after k es a.1))

  -- an entry that is not after the node is passed over
  pub passed : (k : ℤ) (e : ℤ × X) (es : List (ℤ × X)) → is_lt (int_cmp k e.0) ≡ false → after k (e ∷ es) ≡ after k es
  passed k e es h = rw h refl

  pub after_append : (k : ℤ) (xs ys : List (ℤ × X)) → after k (xs ++ ys) ≡ after k xs ++ after k ys
  after_append k xs ys = filter-append _ xs ys

-- what is not below is not less
not_less : (k l : ℤ) → l <ℤ k → is_lt (int_cmp k l) ≡ false
not_less k l h =
    by_cmp k l (λ c lt. absurd (omega (arith, ints))) (λ c eq. absurd (omega (arith, ints))) (λ c gt. rw c refl)

self_less : (k : ℤ) → is_lt (int_cmp k k) ≡ false
self_less k = by_cmp k k (λ c lt. absurd (omega (arith, ints))) (λ c eq. rw c refl) (λ c gt. rw c refl)

-- the links after a node from the first place on
pub direct_after : (n i : ℕ) (links : List ℕ) (k : ℤ) → k ≡ pos (n + i)
    → after k (direct n links) ≡ direct (n + suc i) (drop (suc i) links)
direct_after n i [] k h = refl
direct_after n zero (zero ∷ links) k h =
    let e : n + 1 ≡ suc n = omega arith in
    rw e (all_after k (direct (suc n) links) (direct_low (suc n) links k (omega (arith, ints))))
direct_after n zero (suc l ∷ links) k h =
    let e : n + 1 ≡ suc n = omega arith in
    let s : k ≡ pos n = omega (arith, ints) in
    rw e
    (passed k (pos n, suc l) (direct (suc n) links) (rw s (self_less (pos n)))
    ∙ all_after k (direct (suc n) links) (direct_low (suc n) links k (omega (arith, ints))))
direct_after n (suc i) (zero ∷ links) k h =
    let e : n + suc (suc i) ≡ suc n + suc i = omega arith in
    rw e (direct_after (suc n) i links k (omega (arith, ints)))
direct_after n (suc i) (suc l ∷ links) k h =
    let e : n + suc (suc i) ≡ suc n + suc i = omega arith in
    rw e
    (passed k (pos n, suc l) (direct (suc n) links) (not_less k (pos n) (omega (arith, ints)))
    ∙ direct_after (suc n) i links k (omega (arith, ints)))

-- all links are after a node below 0
pub direct_all : (links : List ℕ) (k : ℤ) → k <ℤ pos 0 → after k (direct 0 links) ≡ direct 0 links
direct_all links k h = all_after k (direct 0 links) (direct_low 0 links k h)

module _ {V : Type 0} (k : ℤ) (vs : List V) where
  first_kept : (l : ℤ) (o : Option V) (rest : List (ℤ × V)) → is_lt (int_cmp k l) ≡ true
      → after k (with_value l o ++ rest) ≡ with_value l o ++ after k rest
  first_kept l None rest h = refl
  first_kept l (Some v) rest h = rw h refl

  first_passed : (l : ℤ) (o : Option V) (rest : List (ℤ × V)) → is_lt (int_cmp k l) ≡ false
      → after k (with_value l o ++ rest) ≡ after k rest
  first_passed l None rest h = refl
  first_passed l (Some v) rest h = rw h refl

  -- the values after a node are those of the links after it
  pub valued_after : (es : List (ℤ × ℕ)) → after k (valued es vs) ≡ valued (after k es) vs
  valued_after [] = refl
  valued_after (e ∷ es) = elim (cases_Bool (is_lt (int_cmp k e.0))) [
    | inl t ↦
        rw t
        (first_kept e.0 (value_at vs e.1) (valued es vs) t
        ∙ ap (λ l. with_value e.0 (value_at vs e.1) ++ l) (valued_after es))
    | inr t ↦ rw t (first_passed e.0 (value_at vs e.1) (valued es vs) t ∙ valued_after es)
  ]

-- all entries are in a range without bounds
pub no_bounds : {X : Type 0} (es : List (ℤ × X)) → entries_between int_cmp Unbounded Unbounded es ≡ es
no_bounds [] = refl
no_bounds (e ∷ es) = ap (λ l. e ∷ l) (no_bounds es)

-- what is left of a list of links and of a map after a node
pub left_after : (links : List ℕ) (above range : List (ℤ × ℕ)) (k : ℤ) (p first : ℕ) → (k <ℤ pos 0 → p ≡ 0)
    → (pos 0 ≤ℤ k → pos p ≡ k +ℤ pos 1) → (first ≡ p) ⊎ ((first ≡ length links) × (length links ≤ p))
    → range ≡ after k above → direct_from (pos first) (drop first links) ++ range ≡ after k (direct 0 links ++ above)
left_after links above range k p first low high is e =
    rw (e, from_is first (drop first links), after_append k (direct 0 links) above)
    (ap (λ l. l ++ after k above) (from_first is ∙ by_lt_z k (pos 0) below from_zero))
  where
    from_first : (first ≡ p) ⊎ ((first ≡ length links) × (length links ≤ p))
        → direct first (drop first links) ≡ direct p (drop p links)
    from_first (inl s) = rw s refl
    from_first (inr s) =
        rw (s.0, drop_of_length-le links {i = length links} (omega arith), drop_of_length-le links {i = p} s.1) refl

    below : k <ℤ pos 0 → direct p (drop p links) ≡ after k (direct 0 links)
    below lt = rw (low lt) (sym (direct_all links k lt))

    at_place : (q : ℕ) → p ≡ q → pos 0 ≤ℤ k → direct p (drop p links) ≡ after k (direct 0 links)
    at_place zero z le = absurd (omega (arith, ints, high le, z))
    at_place (suc i) z le =
        let s : k ≡ pos (0 + i) = omega (arith, ints, high le, z) in
        let zero_suc : 0 + suc i ≡ suc i = omega arith in
        rw z (sym (rw zero_suc at (direct_after 0 i links k s)))

    from_zero : pos 0 ≤ℤ k → direct p (drop p links) ≡ after k (direct 0 links)
    from_zero le = at_place p refl le

-- the less of two numbers is the first, or the second
pub min_is : (a b m : ℕ) → m ≡ min a b → (m ≡ a) ⊎ ((m ≡ b) × (b ≤ a))
min_is a b m e = elim (cases_lt a b) [
  | inl lt ↦ inl (e ∙ min-eq_left (omega (arith, lt)))
  | inr le ↦ inr (e ∙ min_comm a b ∙ min-eq_left le, le)
]
