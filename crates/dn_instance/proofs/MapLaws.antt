-- Lemmas on inserting entries by ascending key.
use Rattle.std.proofs.Common.{arith, ◌≡◌, is_eq, suc, length, ℤ, List, [], ◌∷◌, ◌++◌, refl, sym, ap, ◌∙◌, Bool, true, false, cond, ◌||◌, Option, Some, is_some, inl, inr, filter_map, int_cmp, int_eq}
use Rattle.std.proofs.Math.Bool.{or-false}
use Rattle.std.proofs.lemmas.Bool.{cases_Bool}
use Rattle.std.specs.Cmp.{IsTotalOrder}
use Rattle.std.specs.List.{AllByRecursion, fold, list_any}
use Rattle.std.specs.List.Sorted.{IsStrictlySortedBy}
use Rattle.std.specs.Map.{keys_of, lookup}
use Rattle.std.specs.Ordering.{int_cmp, match_ordering, ordering_reverse}
use Rattle.std.specs.BTreeMap.{insert_entry, is_at}
use Rattle.std.specs.declared.cmp.Ordering.{Ordering}
use Rattle.std.specs.declared.cmp.Ordering.TheVariants.{Less, Equal, Greater}
use Rattle.std.proofs.lemmas.Cmp.{int_cmp_total, int_eq_equiv}
use Rattle.std.proofs.lemmas.Map.Lookups.{CmpEqualImpliesEq, exact_signed}
use Rattle.std.proofs.lemmas.List.Sums.{fold-append}
use Rattle.dn_arc_theory.proofs.PairLaws.{int_self, equal_is, self_equal}
use Rattle.dn_instance.specs.Items.{by_key, point_in}
use Rattle.std.proofs.lemmas.Int.{ints}
use Rattle.std.proofs.lemmas.Bool.Decides.{nat_tests}
use Rattle.dn_line.specs.declared.line.Line.{Line}
use Rattle.dn_line.specs.declared.line.Line.TheVariants as Item
use Rattle.dn_instance.specs.TextFaults.{has_point}

-- what follows from a property of each element holds of each element
pub all_mono : {Y : Type 0} (P Q : Y → Type 0) → ((y : Y) → P y → Q y) → (ys : List Y) → AllByRecursion P ys
    → AllByRecursion Q ys
all_mono P Q f [] a = tt
all_mono P Q f (y ∷ ys) a = (f y a.0, all_mono P Q f ys a.1)

module _ {K X : Type 0} (cmp : K → K → Ordering) (k : K) (v : X) where
  -- what holds of each list that inserting an entry may give
  put_cases : (P : List (K × X) → Type 0) (e : K × X) (es : List (K × X)) → (cmp k e.0 ≡ Less → P ((k, v) ∷ e ∷ es))
      → (cmp k e.0 ≡ Equal → P ((e.0, v) ∷ es)) → (cmp k e.0 ≡ Greater → P (e ∷ insert_entry cmp es k v))
      → P (insert_entry cmp (e ∷ es) k v)
  put_cases P e es less equal greater = at (cmp k e.0) refl
    where
      at : (r : Ordering) → cmp k e.0 ≡ r
          → P (match_ordering r ((k, v) ∷ e ∷ es) ((e.0, v) ∷ es) (e ∷ insert_entry cmp es k v))
      at Less h = less h
      at Equal h = equal h
      at Greater h = greater h

  keys_put : (P : K → Type 0) (es : List (K × X)) → P k → AllByRecursion P (keys_of es)
      → AllByRecursion P (keys_of (insert_entry cmp es k v))
  keys_put P [] new all = (new, tt)
  keys_put P (e ∷ es) new all =
      put_cases (λ xs. AllByRecursion P (keys_of xs)) e es (λ h. (new, all)) (λ h. all)
      (λ h. (all.0, keys_put P es new all.1))

  -- ascending keys are ascending after inserting
  pub ascending_put : IsTotalOrder cmp → (es : List (K × X)) → IsStrictlySortedBy cmp (keys_of es)
      → IsStrictlySortedBy cmp (keys_of (insert_entry cmp es k v))
  unfolding IsStrictlySortedBy
  ascending_put total [] m = (tt, tt)
  ascending_put total (e ∷ es) m =
      put_cases (λ xs. IsStrictlySortedBy cmp (keys_of xs)) e es (λ h. (
        (
          h,
          all_mono (λ y. cmp e.0 y ≡ Less) (λ y. cmp k y ≡ Less) (λ y g. total.trans k e.0 y h g) (keys_of es) m.0,
        ),
        m,
      )) (λ h. m) (λ h. (
        keys_put (λ y. cmp e.0 y ≡ Less) es (total.antisymm e.0 k ∙ ap ordering_reverse h) m.0,
        ascending_put total es m.1,
      ))

-- what holds of each entry and of the inserted one holds of each entry after inserting
pub each_put : {X : Type 0} (k : ℤ) (v : X) (P : ℤ × X → Type 0) (es : List (ℤ × X)) → P (k, v) → AllByRecursion P es
    → AllByRecursion P (insert_entry int_cmp es k v)
each_put k v P [] new all = (new, tt)
each_put k v P (e ∷ es) new all =
    put_cases int_cmp k v (AllByRecursion P) e es (λ h. (new, all)) (λ h. (rw (exact_signed k e.0 h) at new, all.1))
    (λ h. (all.0, each_put k v P es new all.1))

-- one more entry is inserted by its key
pub by_key_push : {X : Type 0} (es : List (ℤ × X)) (e : ℤ × X)
    → by_key (es ++ e ∷ []) ≡ insert_entry int_cmp (by_key es) e.0 e.1
by_key_push es e = fold-append (λ m x. insert_entry int_cmp m x.0 x.1) [] es (e ∷ [])

-- the empty list of keys is ascending
pub no_keys : {K : Type 0} (cmp : K → K → Ordering) → IsStrictlySortedBy cmp []
unfolding IsStrictlySortedBy
no_keys cmp = tt

-- what is found after inserting an entry
pub put_found : {K X : Type 0} (cmp : K → K → Ordering) → IsTotalOrder cmp → CmpEqualImpliesEq cmp → (q k : K) (v : X)
    (es : List (K × X)) → lookup (is_at (cmp q)) (insert_entry cmp es k v) ≡ cond (is_at (cmp q) k) (Some v)
    (lookup (is_at (cmp q)) es)
put_found cmp total exact q k v [] = refl
put_found {K} {X} cmp total exact q k v (e ∷ es) =
    let At : List (K × X) → Option X = lookup (is_at (cmp q)) in
    let is : (j : K) → is_at (cmp q) j ≡ true → q ≡ j = λ j h. exact q j (equal_is (cmp q j) h) in
    put_cases cmp k v (λ xs. At xs ≡ cond (is_at (cmp q) k) (Some v) (At (e ∷ es))) e es (λ h. refl)
    (λ h. elim (cases_Bool (is_at (cmp q) e.0)) [
      | inl t ↦ rw (exact k e.0 h, t)
      | inr t ↦ rw (exact k e.0 h, t)
    ]) (λ h. elim (cases_Bool (is_at (cmp q) e.0)) [
      | inl t ↦ elim (cases_Bool (is_at (cmp q) k)) [
        | inl u ↦ cc (self_equal (cmp q q) (total.antisymm q q), rw (← is k u, ← is e.0 t) at h)
        | inr u ↦ rw (t, u)
      ]
      | inr t ↦ rw t (put_found cmp total exact q k v es)
    ])

-- whether a key is the sought one
abbrev Sought : ℤ → ℤ → Bool
Sought q k = is_at (int_cmp q) k

-- a key that is found is the sought one
sought_is : (q k : ℤ) → is_eq (int_cmp q k) ≡ true → q ≡ k
sought_is q k h = exact_signed q k (equal_is (int_cmp q k) h)

lookup_put : {X : Type 0} (q k : ℤ) (v : X) (es : List (ℤ × X))
    → lookup (is_at (int_cmp q)) (insert_entry int_cmp es k v) ≡ cond (Sought q k) (Some v)
    (lookup (is_at (int_cmp q)) es)
lookup_put q k v es = put_found int_cmp int_cmp_total exact_signed q k v es

pub some_cond : {X : Type 0} (t : Bool) (v : X) (o : Option X) → is_some (cond t (Some v) o) ≡ (t || is_some o)
some_cond true v o = refl
some_cond false v o = refl

or_swap : (a b c : Bool) → ((a || b) || c) ≡ (b || (a || c))
or_swap a b c = grind arith

found_fold : {X : Type 0} (q : ℤ) (m es : List (ℤ × X))
    → is_some (lookup (is_at (int_cmp q)) (fold (λ n e. insert_entry int_cmp n e.0 e.1) m es)) ≡
    (is_some (lookup (is_at (int_cmp q)) m) || list_any (λ e. Sought q e.0) es)
found_fold q m [] = sym (or-false (is_some (lookup (is_at (int_cmp q)) m)))
found_fold q m (e ∷ es) =
    found_fold q (insert_entry int_cmp m e.0 e.1) es
    ∙ rw (lookup_put q e.0 e.1 m, some_cond (Sought q e.0) e.1 (lookup (is_at (int_cmp q)) m))
    (or_swap (Sought q e.0) (is_some (lookup (is_at (int_cmp q)) m)) (list_any (λ x. Sought q x.0) es))

-- a key is found among entries by ascending key exactly if it is among the entries
pub found_by_key : {X : Type 0} (q : ℤ) (es : List (ℤ × X))
    → is_some (lookup (is_at (int_cmp q)) (by_key es)) ≡ list_any (λ e. Sought q e.0) es
found_by_key q es = found_fold q [] es

-- inserting a new key adds one entry
pub one_more_key : {X : Type 0} (k : ℤ) (v : X) (es : List (ℤ × X)) → is_some (lookup (is_at (int_cmp k)) es) ≡ false
    → length (insert_entry int_cmp es k v) ≡ suc (length es)
one_more_key k v [] h = refl
one_more_key k v (e ∷ es) h =
    put_cases int_cmp k v (λ xs. length xs ≡ suc (suc (length es))) e es (λ r. refl) (λ r. cc (rw r at h))
    (λ r. ap suc (one_more_key k v es (rw r at h)))

pub sought_eq : (q k : ℤ) → is_at (int_cmp q) k ≡ int_eq k q
sought_eq q k = elim (cases_Bool (int_eq k q)) [
  | inl e ↦
      let same : k ≡ q = grind (arith, ints, nat_tests) in
      rw (e, same) (ap is_eq (int_self q))
  | inr e ↦ elim (cases_Bool (is_at (int_cmp q) k)) [
    | inl f ↦ cc (rw (sought_is q k f, int_eq_equiv.refl k) at e)
    | inr f ↦ rw (e, f)
  ]
]

pub points_named : (q : ℤ) (items : List Line)
    → list_any (λ e. is_at (int_cmp q) e.0) (filter_map point_in items) ≡ list_any (has_point q) items
points_named q [] = refl
points_named q (Item.Point id x y ∷ rest) = rw (sought_eq q id, points_named q rest)
points_named q (_ ∷ rest) = points_named q rest
