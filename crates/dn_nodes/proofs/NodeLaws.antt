-- Values by node: what a look-up finds, and what an insertion changes.
use Rattle.std.proofs.Common.{inl, inr, ◌≡◌, ℕ, zero, suc, ◌+◌, ◌*◌, ◌≤◌, ℤ, List, [], ◌∷◌, ◌++◌, Bool, false, ◌||◌, Option, Some, None, is_some, length, slice_get, refl, sym, ap, ◌∙◌, arith, Less, Greater, int_cmp, length-append}
use Rattle.std.specs.BTreeMap.{insert_entry}
use Rattle.std.specs.List.{AllByRecursion, list_any}
use Rattle.std.specs.Map.{keys_of, lookup}
use Rattle.std.proofs.lemmas.Bool.{cases_Bool}
use Rattle.dn_arc_theory.proofs.CanonsLaws.{by_cmp}
use Rattle.dn_nodes.specs.State.Nodes.{Gains, Nodes, Ascends, at, is_known, with_entry}
use Rattle.dn_nodes.specs.State.Links.{linked, with_value, value_at, valued, AreWithin, IsShort}
use Rattle.dn_nodes.proofs.KeyLaws.{Above, above_none, above_trans, at_is, at_self, insert_first, insert_ascends, ascends_cons, ascends_head, ascends_none, ascends_tail}

more_length : {X : Type 0} (es : List (ℤ × X)) (id : ℤ) (x : X) → lookup (at id) es ≡ None
    → length (insert_entry int_cmp es id x) ≡ length es + 1
more_length [] id x none = refl
more_length (e ∷ es) id x none =
    by_cmp id e.0 (λ c lt. rw c (omega arith)) (λ c eq. cc (rw c at none))
    (λ c gt. rw c (omega (arith, more_length es id x (rw c at none))))

-- a list of links stays short if one more node has a link
pub short_more : (es now : List (ℤ × ℕ)) (id : ℤ) (n places count more : ℕ) → now ≡ insert_entry int_cmp es id n
    → lookup (at id) es ≡ None → places ≤ 8 * (length es + 17) → count ≤ length es → more ≤ count + 1
    → IsShort places (length now) × (more ≤ length now)
short_more es now id n places count more is none most few one =
    let long = ap length is ∙ more_length es id n none in
    (omega (arith, most, long), omega (arith, few, one, long))

-- ---- which nodes there are

-- a node is known exactly if it has a link
pub known_is : {X : Type 0} (id : ℤ) (es : List (ℤ × X)) → is_some (lookup (at id) es) ≡ list_any (at id) (keys_of es)
known_is id [] = refl
known_is id (e ∷ es) = elim (cases_Bool (at id e.0)) [ inl t ↦ rw t refl | inr t ↦ rw t (known_is id es) ]

no_link : {X : Type 0} (id : ℤ) (es : List (ℤ × X)) → list_any (at id) (keys_of es) ≡ false
    → lookup (at id) es ≡ None
no_link id es h = none_is (lookup (at id) es) (known_is id es ∙ h)
  where
    none_is : {X : Type 0} (o : Option X) → is_some o ≡ false → o ≡ None
    none_is None e = refl
    none_is (Some x) e = cc

or_twice : (a b : Bool) → (a || b) ≡ (a || (a || b))
or_twice a b = grind arith

or_swap : (a b c : Bool) → (a || (b || c)) ≡ (b || (a || c))
or_swap a b c = grind arith

pub known_more : {X : Type 0} (q id : ℤ) (x : X) (es : List (ℤ × X))
    → list_any (at q) (keys_of (insert_entry int_cmp es id x)) ≡ (at q id || list_any (at q) (keys_of es))
known_more q id x [] = refl
known_more q id x (e ∷ es) =
    by_cmp id e.0 (λ c lt. rw c refl) (λ c eq. rw (c, eq) (or_twice (at q e.0) (list_any (at q) (keys_of es))))
    (λ c gt. rw (c, known_more q id x es) (or_swap (at q e.0) (at q id) (list_any (at q) (keys_of es))))

-- ---- the values of links

module _ {V : Type 0} where
  above_first : (k l : ℤ) (o : Option V) (rest : List (ℤ × V)) → int_cmp k l ≡ Less → Above k rest
      → Above k (with_value l o ++ rest)
  above_first k l None rest c a = a
  above_first k l (Some x) rest c a = (c, a)

  above_valued : (k : ℤ) (es : List (ℤ × ℕ)) (vs : List V) → Above k es → Above k (valued es vs)
  above_valued k [] vs a = tt
  above_valued k (e ∷ es) vs a =
      above_first k e.0 (value_at vs e.1) (valued es vs) a.0 (above_valued k es vs a.1)

  ascends_first : (l : ℤ) (o : Option V) (rest : List (ℤ × V)) → Above l rest → Ascends rest
      → Ascends (with_value l o ++ rest)
  ascends_first l None rest a r = r
  ascends_first l (Some x) rest a r = ascends_cons (l, x) rest a r

  pub ascends_valued : (es : List (ℤ × ℕ)) (vs : List V) → Ascends es → Ascends (valued es vs)
  ascends_valued [] vs r = ascends_none V
  ascends_valued (e ∷ es) vs r =
      ascends_first e.0 (value_at vs e.1) (valued es vs) (above_valued e.0 es vs (ascends_head e es r))
      (ascends_valued es vs (ascends_tail e es r))

  first_looked : (k : ℤ) (o : Option V) (rest : List (ℤ × V)) → Above k rest
      → lookup (at k) (with_value k o ++ rest) ≡ o
  first_looked k None rest a = above_none k rest a
  first_looked k (Some x) rest a = rw (at_self k) refl

  later_looked : (k l : ℤ) (o : Option V) (rest : List (ℤ × V)) → at k l ≡ false
      → lookup (at k) (with_value l o ++ rest) ≡ lookup (at k) rest
  later_looked k l None rest h = refl
  later_looked k l (Some x) rest h = rw h refl

  -- the value of a node is that at its link
  pub looked : (id : ℤ) (es : List (ℤ × ℕ)) (vs : List V) → Ascends es
      → lookup (at id) (valued es vs) ≡ linked vs (lookup (at id) es)
  looked id [] vs r = refl
  looked id (e ∷ es) vs r = elim (cases_Bool (at id e.0)) [
    | inl t ↦
        let same = at_is id e.0 t in
        rw (same, at_self e.0)
        (first_looked e.0 (value_at vs e.1) (valued es vs) (above_valued e.0 es vs (ascends_head e es r)))
    | inr t ↦
        rw t (later_looked id e.0 (value_at vs e.1) (valued es vs) t ∙ looked id es vs (ascends_tail e es r))
  ]

  -- ---- one more link

  -- the links lead to the same values in both lists
  abbrev pub Agree : List V → List V → List (ℤ × ℕ) → Type 0
  Agree vs ws es = AllByRecursion (λ (e : ℤ × ℕ). value_at ws e.1 ≡ value_at vs e.1) es

  agree_valued : (es : List (ℤ × ℕ)) (vs ws : List V) → Agree vs ws es → valued es ws ≡ valued es vs
  agree_valued [] vs ws a = refl
  agree_valued (e ∷ es) vs ws a = rw (a.0, agree_valued es vs ws a.1) refl

  first_entry : (k : ℤ) (o : Option V) (rest : List (ℤ × V)) → Above k rest
      → with_value k o ++ rest ≡ with_entry rest k o
  first_entry k None rest a = refl
  first_entry k (Some v) rest a = sym (insert_first rest k v a)

  later_entry : (j k : ℤ) (p o : Option V) (rest : List (ℤ × V)) → int_cmp k j ≡ Greater
      → with_value j p ++ with_entry rest k o ≡ with_entry (with_value j p ++ rest) k o
  later_entry j k None o rest c = refl
  later_entry j k (Some x) None rest c = refl
  later_entry j k (Some x) (Some v) rest c = rw c refl

  pub valued_more : (es : List (ℤ × ℕ)) (vs ws : List V) (id : ℤ) (n : ℕ) → Agree vs ws es → Ascends es
      → lookup (at id) es ≡ None
      → valued (insert_entry int_cmp es id n) ws ≡ with_entry (valued es vs) id (value_at ws n)
  valued_more [] vs ws id n a r none = first_entry id (value_at ws n) [] tt
  valued_more (e ∷ es) vs ws id n a r none =
      by_cmp id e.0
      (λ c lt. (let above : Above id (e ∷ es) = (c, above_trans id e.0 es c (ascends_head e es r)) in
      rw (c, agree_valued (e ∷ es) vs ws a)
      (first_entry id (value_at ws n) (valued (e ∷ es) vs) (above_valued id (e ∷ es) vs above))))
      (λ c eq. cc (rw c at none))
      (λ c gt. rw (c, a.0, valued_more es vs ws id n a.1 (ascends_tail e es r) (rw c at none))
      (later_entry e.0 id (value_at vs e.1) (value_at ws n) (valued es vs) c))

  -- ---- one more value

  push_length : (vs : List V) (v : V) → length (vs ++ v ∷ []) ≡ length vs + 1
  push_length vs v = length-append vs (v ∷ [])

  push_at : (vs : List V) (v : V) (l : ℕ) → l ≤ length vs + 1 → value_at (vs ++ v ∷ []) l ≡ value_at vs l
  push_at vs v zero h = refl
  push_at vs v (suc zero) h = refl
  push_at [] v (suc (suc i)) h = absurd (omega (arith, h))
  push_at (u ∷ vs) v (suc (suc zero)) h = refl
  push_at (u ∷ vs) v (suc (suc (suc i))) h = push_at vs v (suc (suc i)) (omega (arith, h))

  push_agree : (es : List (ℤ × ℕ)) (vs : List V) (v : V) → AreWithin es vs → Agree vs (vs ++ v ∷ []) es
  push_agree [] vs v w = tt
  push_agree (e ∷ es) vs v w = (push_at vs v e.1 w.0, push_agree es vs v w.1)

  last_value : (vs : List V) (v : V) → value_at (vs ++ v ∷ []) (length vs + 2) ≡ Some v
  last_value vs v =
      let two : length vs + 2 ≡ suc (suc (length vs)) = omega arith in
      rw two (go vs)
    where
      go : (us : List V) → slice_get (us ++ v ∷ []) (length us) ≡ Some v
      go [] = refl
      go (u ∷ us) = go us

  same_agree : (es : List (ℤ × ℕ)) (vs : List V) → Agree vs vs es
  same_agree [] vs = tt
  same_agree (e ∷ es) vs = (refl, same_agree es vs)

  within_more : (es : List (ℤ × ℕ)) (vs ws : List V) (id : ℤ) (n : ℕ) → length vs ≤ length ws → n ≤ length ws + 1
      → AreWithin es vs → AreWithin (insert_entry int_cmp es id n) ws
  within_more [] vs ws id n le new w = (new, tt)
  within_more (e ∷ es) vs ws id n le new w =
      let old = older (e ∷ es) w in
      by_cmp id e.0 (λ c lt. rw c (new, old)) (λ c eq. rw c (new, old.1))
      (λ c gt. rw c (old.0, within_more es vs ws id n le new w.1))
    where
      older : (xs : List (ℤ × ℕ)) → AreWithin xs vs → AreWithin xs ws
      older [] h = tt
      older (x ∷ xs) h = (omega (arith, le, h.0), older xs h.1)

  -- what holds of links and values
  abbrev pub Fit : List (ℤ × ℕ) → List V → Type 0
  Fit es vs = Ascends es × AreWithin es vs × (length (valued es vs) ≡ length vs)

  -- the nodes with these links and values
  abbrev pub shown : List (ℤ × ℕ) → List V → Nodes V
  shown es vs = record { entries = valued es vs; known = keys_of es }

  -- a node that is not known has no link
  pub unlinked : (es : List (ℤ × ℕ)) (vs : List V) (old : Nodes V) (id : ℤ) → shown es vs ≡ old
      → is_known old id ≡ false → lookup (at id) es ≡ None
  unlinked es vs old id view new = no_link id es (rw (← view) at new)

  -- a node is inserted, whose link leads to this value, or to none, among the values as they are then
  module _ (es now : List (ℤ × ℕ)) (vs : List V) (old : Nodes V) (id : ℤ) (view : shown es vs ≡ old) (fit : Fit es vs)
      (new : is_known old id ≡ false) where
    none : lookup (at id) es ≡ None
    none = unlinked es vs old id view new

    gained : (ws : List V) (n : ℕ) → Agree vs ws es → now ≡ insert_entry int_cmp es id n
        → Gains old id (value_at ws n) (shown now ws)
    gained ws n agree links =
        rw (← view, links)
        (record { entries = valued_more es vs ws id n agree fit.0 none; known = λ q. known_more q id n es })

    -- one without a value
    pub bare : now ≡ insert_entry int_cmp es id 1 → Gains old id None (shown now vs) × Fit now vs
    bare links =
        let more = gained vs 1 (same_agree es vs) links in (
          more,
          (
            rw links (insert_ascends es id 1 fit.0),
            rw links (within_more es vs vs id 1 (omega arith) (omega arith) fit.1),
            ap length more.entries ∙ ap (λ (nodes : Nodes V). length nodes.entries) (sym view) ∙ fit.2,
          ),
        )

    -- one with a value
    pub filled : (ws : List V) (v : V) (n : ℕ) → n ≡ length vs + 2 → now ≡ insert_entry int_cmp es id n
        → ws ≡ vs ++ v ∷ [] → Gains old id (Some v) (shown now ws) × Fit now ws
    filled ws v n last links pushed =
        let leads : value_at ws n ≡ Some v = rw (pushed, last) (last_value vs v) in
        let more = rw leads at (gained ws n (rw pushed (push_agree es vs v fit.1)) links) in
        let long : length ws ≡ length vs + 1 = ap length pushed ∙ push_length vs v in
        let one = more_length (valued es vs) id v (looked id es vs fit.0 ∙ ap (linked vs) none) in (
          more,
          (
            rw links (insert_ascends es id n fit.0),
            rw links (within_more es vs ws id n (omega (arith, long)) (omega (arith, long, last)) fit.1),
            omega (arith, ap length (rw (← view) at more.entries), one, fit.2, long),
          ),
        )
