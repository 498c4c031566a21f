-- Runs: where a pair is, and one more pair.
use Rattle.std.proofs.Common.{◌≡◌, ℕ, ◌+◌, ◌-◌, ◌<◌, ◌≤◌, ℤ, pos, List, [], ◌∷◌, ◌++◌, length, take, drop, ◌⊎◌, inl, inr, Option, Some, None, option_map, refl, sym, ap, ◌∙◌, arith, Ordering, Less, Equal, Greater}
use Rattle.std.specs.List.{All, AllByRecursion, IsDistinct, slice_get}
use Rattle.std.specs.List.Sorted.{IsStrictlySortedBy, IsPermutation}
use Rattle.std.specs.Map.{keys_of}
use Rattle.std.specs.Ordering.{int_cmp, ordering_then}
use Rattle.std.proofs.lemmas.Bool.{cases_lt}
use Rattle.std.proofs.lemmas.List.{take_all, drop_all, length_push, get_or-take, get_or-drop, length-take-le, length-drop, take-append-le, drop-append-le, take-append-drop, take-map, drop-map, append-nil, map-append}
use Rattle.std.proofs.lemmas.Map.Entries.{length-keys_of}
use Rattle.std.proofs.lemmas.Map.Views.{All-map-IsPermutation}
use Rattle.std.proofs.lemmas.Map.Keys.{Less-from_sorted, IsDistinct-tail}
use Rattle.std.proofs.lemmas.Map.Lookups.{exact_signed}
use Rattle.std.proofs.lemmas.Option.{slice_get_within}
use Rattle.dn_arc_theory.specs.Pairs.{pair_cmp, same_pair}
use Rattle.dn_arc_theory.proofs.PairLaws.{pair_total}
use Rattle.pair_index.specs.State.Chained.{IsChained}
use Rattle.pair_index.specs.State.Positions.{key_at, IsPosition, IsPositionFrom}
use Rattle.pair_index.specs.State.Runs.{IsGroup, ShowsGroup}
use Rattle.pair_index.specs.State.Sorted.{AreSorted}
use Rattle.pair_index.specs.declared.chains.Chains.{Chains}
use Rattle.pair_index.specs.declared.runs.Group.{Group}
use Rattle.pair_index.specs.declared.runs.Group.TheVariants.{Sorted, Few, Linked}
use Rattle.pair_index.proofs.ChainLaws.{key_kept, key_new}
use Rattle.pair_index.proofs.PositionLaws.{none_from_positions, fresh_at}
use Rattle.pair_index.proofs.SortedLaws.{all_keys, key_of_entry, less_apart, sorted_append, sorted_more}

-- an ordering by tails that decides
by_tails : (o rest : Ordering) → (o ≡ Equal → ⊥) → ordering_then o rest ≡ Less → o ≡ Less
by_tails Less rest apart l = refl
by_tails Equal rest apart l = absurd (apart refl)
by_tails Greater rest apart l = cc

-- if two pairs have different tails, their order is that of all pairs of these tails
tails_ascend : (p q r s : ℤ × ℤ) → pair_cmp p q ≡ Less → (p.0 ≡ q.0 → ⊥) → r.0 ≡ p.0 → s.0 ≡ q.0
    → pair_cmp r s ≡ Less
tails_ascend p q r s l apart rp sq =
    let less = by_tails (int_cmp p.0 q.0) (int_cmp p.1 q.1) (λ e. apart (exact_signed p.0 q.0 e)) l in
    rw (rp, sq, less)

-- the first of two lists of sorted keys, and the second of two lists of different keys
all_left : (P : ℤ × ℤ → Type 0) (xs ys : List (ℤ × ℤ)) → AllByRecursion P (xs ++ ys) → AllByRecursion P xs
all_left P [] ys all = tt
all_left P (x ∷ xs) ys all = (all.0, all_left P xs ys all.1)

sorted_left : (xs ys : List (ℤ × ℤ)) → AreSorted (xs ++ ys) → AreSorted xs
unfolding IsStrictlySortedBy
sorted_left [] ys up = tt
sorted_left (x ∷ xs) ys up = (all_left (λ y. pair_cmp x y ≡ Less) xs ys up.0, sorted_left xs ys up.1)

apart_right : (xs ys : List (ℤ × ℤ)) → IsDistinct same_pair (xs ++ ys) → IsDistinct same_pair ys
apart_right [] ys apart = apart
apart_right (x ∷ xs) ys apart = apart_right xs ys (IsDistinct-tail same_pair x (xs ++ ys) apart)

-- unless all keys are sorted, there is a group
pub group_unless_sorted : (keys : List (ℤ × ℤ)) (begin : ℕ) (group : Group)
    → (group ≡ Sorted → ⊥) → ShowsGroup begin group keys → IsGroup keys begin
group_unless_sorted keys begin Sorted not shows = absurd (not refl)
group_unless_sorted keys begin Few not shows = shows
group_unless_sorted keys begin (Linked chains) not shows = shows.0

module _ (keys : List (ℤ × ℤ)) (begin : ℕ) (group : IsGroup keys begin) (p : ℤ × ℤ) where
  -- a pair of the group's tail is in the group or nowhere
  pub among_group : p.0 ≡ group.tail → (o : Option ℕ) → IsPositionFrom keys begin p o → IsPosition keys p o
  among_group e None none = none_from_positions p keys (λ i lt f. elim (cases_lt i begin) [
    | inl l ↦ less_apart (key_at keys i) p (group.before i p l e) f
    | inr l ↦ none i l lt f
  ])
  among_group e (Some i) is = is

  -- a pair of another tail is before the group or nowhere
  pub among_sorted : (p.0 ≡ group.tail → ⊥) → (o : Option ℕ) → IsPosition (take begin keys) p o → IsPosition keys p o
  among_sorted other None none = none_from_positions p keys (λ i lt f. elim (cases_lt i begin) [
    | inl l ↦ fresh_at p (take begin keys) i none (omega (arith, length-take-le begin keys (omega arith)))
        (get_or-take begin keys i (pos 0, pos 0) l ∙ f)
    | inr l ↦ other (ap (λ (k : ℤ × ℤ). k.0) (sym f) ∙ group.one_tail i l lt)
  ])
  among_sorted other (Some i) is =
      let all = length-take-le begin keys (omega arith) in
      let below : i < begin = omega (arith, all) in
      (omega arith, rw (get_or-take begin keys i (pos 0, pos 0) below) at is.1)

  -- the last key has the group's tail
  pub end_tail : (key_at keys (length keys - 1)).0 ≡ group.tail
  end_tail = group.one_tail (length keys - 1) (omega arith) (omega arith)

  -- so does the first key of the group
  pub first_tail : (key_at keys begin).0 ≡ group.tail
  first_tail = group.one_tail begin (omega arith) group.inside

  -- the keys remain a group with a pair of its tail at the end
  pub group_more : p.0 ≡ group.tail → IsGroup (keys ++ p ∷ []) begin
  group_more e = record {
    tail = group.tail;
    inside = omega (arith, length_push keys p);
    one_tail = λ i from lt. elim (cases_lt i (length keys)) [
      | inl l ↦ rw (key_kept keys p i l) (group.one_tail i from l)
      | inr l ↦ rw (key_new keys p i (omega (arith, length_push keys p))) e
    ];
    sorted = rw (take-append-le begin keys (p ∷ []) (omega arith)) group.sorted;
    before = λ i q l f. rw (key_kept keys p i (omega arith)) (group.before i q l f);
  }

  -- chains of the group with the pair at the end
  pub linked_on : (chains : Chains) → IsChained chains (drop begin keys ++ p ∷ [])
      → IsChained chains (drop begin (keys ++ p ∷ []))
  linked_on chains linked = rw (drop-append-le begin keys (p ∷ []) (omega arith)) linked

-- the position in the list of a pair's position in the group
pub position_on : (keys : List (ℤ × ℤ)) (begin : ℕ) (p : ℤ × ℤ) (o : Option ℕ) → begin ≤ length keys
    → IsPosition (drop begin keys) p o → IsPositionFrom keys begin p (option_map (λ i. begin + i) o)
position_on keys begin p None within none = λ i from lt f.
    let at : begin + (i - begin) ≡ i = omega arith in
    fresh_at p (drop begin keys) (i - begin) none (omega (arith, length-drop begin keys))
    (rw (get_or-drop begin keys (i - begin) (pos 0, pos 0), at) f)
position_on keys begin p (Some i) within is =
    (omega (arith, length-drop begin keys), rw (get_or-drop begin keys i (pos 0, pos 0)) at is.1)

module _ (keys : List (ℤ × ℤ)) where
  abbrev last : ℤ × ℤ
  last = key_at keys (length keys - 1)

  -- sorted keys end with a group
  pub opened : (begin : ℕ) (t : ℤ) → AreSorted keys → 0 < length keys → begin ≤ length keys
      → ((i : ℕ) → begin ≤ i → i < length keys → (key_at keys i).0 ≡ t)
      → (0 < begin → (key_at keys (begin - 1)).0 ≡ t → ⊥) → last.0 ≡ t → IsGroup keys begin
  opened begin t up some within from past e = record {
    tail = t;
    inside = inside;
    one_tail = from;
    sorted = sorted_left (take begin keys) (drop begin keys) (rw (take-append-drop begin keys) up);
    before = λ i q l f. elim (cases_lt (i + 1) begin) [
      | inl m ↦ pair_total.trans (key_at keys i) (key_at keys (begin - 1)) q
          (Less-from_sorted pair_cmp keys i (begin - 1) (pos 0, pos 0) up (omega arith) (omega arith))
          (at_end q (omega arith) f)
      | inr m ↦ (let at : i ≡ begin - 1 = omega arith in rw at (at_end q (omega arith) f))
    ];
  }
    where
      inside : begin < length keys
      inside = elim (cases_lt begin (length keys)) [
        | inl l ↦ l
        | inr l ↦ (let at : begin ≡ length keys = omega arith in absurd (past (omega arith) (rw at e)))
      ]

      at_end : (q : ℤ × ℤ) → 0 < begin → q.0 ≡ t → pair_cmp (key_at keys (begin - 1)) q ≡ Less
      at_end q l f =
          tails_ascend (key_at keys (begin - 1)) last (key_at keys (begin - 1)) q
          (Less-from_sorted pair_cmp keys (begin - 1) (length keys - 1) (pos 0, pos 0) up
          (omega (arith, inside)) (omega arith))
          (λ g. past l (g ∙ e)) refl (f ∙ sym e)

  -- each key is at the end or before the last one
  up_to_last : AreSorted keys → (i : ℕ) → i < length keys
      → (key_at keys i ≡ last) ⊎ (pair_cmp (key_at keys i) last ≡ Less)
  up_to_last up i lt = elim (cases_lt i (length keys - 1)) [
    | inl l ↦ inr (Less-from_sorted pair_cmp keys i (length keys - 1) (pos 0, pos 0) up l (omega arith))
    | inr l ↦ inl (ap (key_at keys) (let at : i ≡ length keys - 1 = omega arith in at))
  ]

  module _ (p : ℤ × ℤ) (apart : last.0 ≡ p.0 → ⊥) (below : pair_cmp last p ≡ Less) where
    grouped_below : (begin : ℕ) → IsGroup keys begin → (i : ℕ) → i < length keys
        → pair_cmp (key_at keys i) p ≡ Less
    grouped_below begin group i lt =
        let end = end_tail keys begin group p in
        elim (cases_lt i begin) [
          | inl l ↦ pair_total.trans (key_at keys i) last p (group.before i last l end) below
          | inr l ↦ tails_ascend last p (key_at keys i) p below apart (group.one_tail i l lt ∙ sym end) refl
        ]

    -- if a pair of another tail is after the last key, it is after each key
    pub all_below : (begin : ℕ) (group : Group) → ShowsGroup begin group keys → (i : ℕ) → i < length keys
        → pair_cmp (key_at keys i) p ≡ Less
    all_below begin Sorted up i lt = elim (up_to_last up i lt) [
      | inl e ↦ rw e below
      | inr l ↦ pair_total.trans (key_at keys i) last p l below
    ]
    all_below begin Few group i lt = grouped_below begin group i lt
    all_below begin (Linked chains) group i lt = grouped_below begin group.0 i lt

module _ {X : Type 0} where
  -- the entries from a position on, in the form of a slice
  abbrev pub group_of : ℕ → List ((ℤ × ℤ) × X) → List ((ℤ × ℤ) × X)
  group_of begin es = take (length es - begin) (drop begin es)

  whole_group : (begin : ℕ) (es : List ((ℤ × ℤ) × X)) → group_of begin es ≡ drop begin es
  whole_group begin es = take_all (length es - begin) (drop begin es) (omega (arith, length-drop begin es))

  keys_from : (begin : ℕ) (es : List ((ℤ × ℤ) × X)) → keys_of (group_of begin es) ≡ drop begin (keys_of es)
  keys_from begin es = ap keys_of (whole_group begin es) ∙ sym (drop-map (λ (x : (ℤ × ℤ) × X). x.0) begin es)

  -- the keys of a group are different
  pub apart_group : (begin : ℕ) (es : List ((ℤ × ℤ) × X)) → IsDistinct same_pair (keys_of es)
      → IsDistinct same_pair (keys_of (group_of begin es))
  apart_group begin es apart =
      rw (keys_from begin es) (apart_right (take begin (keys_of es)) (drop begin (keys_of es))
      (rw (take-append-drop begin (keys_of es)) apart))

  rest_of : (begin : ℕ) (es : List ((ℤ × ℤ) × X)) → drop (length es - begin) (drop begin es) ≡ []
  rest_of begin es = drop_all (length es - begin) (drop begin es) (omega (arith, length-drop begin es))

  -- with its group sorted, the whole list is sorted
  pub closed : (begin : ℕ) (es ys : List ((ℤ × ℤ) × X)) → IsGroup (keys_of es) begin
      → IsPermutation (group_of begin es) ys → AreSorted (keys_of ys)
      → AreSorted (keys_of (take begin es ++ (ys ++ drop (length es - begin) (drop begin es))))
  closed begin es ys group moved up =
      rw keys_are (sorted_append (take begin (keys_of es)) (keys_of ys) group.sorted up by_key)
    where
      keys_are : keys_of (take begin es ++ (ys ++ drop (length es - begin) (drop begin es)))
          ≡ take begin (keys_of es) ++ keys_of ys
      keys_are =
          rw (rest_of begin es, append-nil ys, map-append (λ (x : (ℤ × ℤ) × X). x.0) (take begin es) ys)
          (rw (take-map (λ (x : (ℤ × ℤ) × X). x.0) begin es))

      tails : All (λ k. k.0 ≡ group.tail) (keys_of ys)
      tails =
          All-map-IsPermutation (λ (x : (ℤ × ℤ) × X). x.0) (λ k. k.0 ≡ group.tail) (group_of begin es) ys moved
          (rw (keys_from begin es) (all_keys (λ k. k.0 ≡ group.tail) (drop begin (keys_of es)) (λ i lt.
          rw (get_or-drop begin (keys_of es) i (pos 0, pos 0))
          (group.one_tail (begin + i) (omega arith) (omega (arith, length-drop begin (keys_of es)))))))

      by_key : (i j : ℕ) → i < length (take begin (keys_of es)) → j < length (keys_of ys)
          → pair_cmp (key_at (take begin (keys_of es)) i) (key_at (keys_of ys) j) ≡ Less
      by_key i j lt inside =
          let all = length-take-le begin (keys_of es) (omega arith) in
          let below : i < begin = omega (arith, all) in
          rw (get_or-take begin (keys_of es) i (pos 0, pos 0) below)
          (group.before i (key_at (keys_of ys) j) below (tails j (pos 0, pos 0) inside))

-- the entry at the end of a list that has a group
module _ {X : Type 0} (begin : ℕ) (es : List ((ℤ × ℤ) × X)) (e : (ℤ × ℤ) × X) (p : ℤ × ℤ)
    (end : Some e ≡ slice_get es (length es - 1)) where
  -- its pair is the last key
  pub last_key : e.0 ≡ last (keys_of es)
  last_key = rw (length-keys_of es) (sym (key_of_entry es (length es - 1) e (sym end)))

  pub some_keys : 0 < length (keys_of es)
  some_keys = omega (arith, slice_get_within es (length es - 1) e (sym end), length-keys_of es)

  module _ (group : IsGroup (keys_of es) begin) where
    pub last_tail : e.0.0 ≡ group.tail
    last_tail = rw last_key (group.one_tail (length (keys_of es) - 1) (omega arith) (omega arith))

    pub front_sorted : AreSorted (keys_of (take begin es))
    front_sorted = rw (take-map (λ (x : (ℤ × ℤ) × X). x.0) begin es) at group.sorted

    pub found_before : (e.0.0 ≡ p.0 → ⊥) → (o : Option ℕ) → IsPosition (keys_of (take begin es)) p o
        → IsPosition (keys_of es) p o
    found_before other o is =
        among_sorted (keys_of es) begin group p (λ f. other (last_tail ∙ sym f)) o
        (rw (take-map (λ (x : (ℤ × ℤ) × X). x.0) begin es) is)

    pub found_among : e.0.0 ≡ p.0 → (o : Option ℕ) → IsPositionFrom (keys_of es) begin p o → IsPosition (keys_of es) p o
    found_among same o is = among_group (keys_of es) begin group p (sym same ∙ last_tail) o is

-- the group, linked by chains
module _ {X : Type 0} (begin : ℕ) (es : List ((ℤ × ℤ) × X)) where
  pub group_linked : (chains : Chains) → IsChained chains (drop begin (keys_of es))
      → IsChained chains (keys_of (group_of begin es))
  group_linked chains linked = rw (keys_from begin es) linked

  pub linked_back : (chains : Chains) → IsChained chains (keys_of (group_of begin es))
      → IsChained chains (drop begin (keys_of es))
  linked_back chains linked = rw (keys_from begin es) at linked

  pub found_linked : (p : ℤ × ℤ) (o : Option ℕ) → IsGroup (keys_of es) begin
      → IsPosition (keys_of (group_of begin es)) p o
      → IsPositionFrom (keys_of es) begin p (option_map (λ i. begin + i) o)
  found_linked p o group is = position_on (keys_of es) begin p o (omega arith) (rw (keys_from begin es) at is)

  pub linked_more : (p : ℤ × ℤ) (chains : Chains) → IsGroup (keys_of es) begin
      → IsChained chains (keys_of (group_of begin es) ++ p ∷ [])
      → IsChained chains (drop begin (keys_of es ++ p ∷ []))
  linked_more p chains group linked =
      linked_on (keys_of es) begin group p chains (rw (keys_from begin es) at linked)

-- runs of no entries, with one pair
pub first_run : (begin : ℕ) (group : Group) (p : ℤ × ℤ) (keys : List (ℤ × ℤ)) → keys ≡ []
    → ShowsGroup begin group keys → ShowsGroup begin group (keys ++ p ∷ [])
unfolding IsStrictlySortedBy
first_run begin Sorted p keys none shows = rw none (tt, tt)
first_run begin Few p keys none shows = absurd (omega (arith, ap length none))
first_run begin (Linked chains) p keys none shows = absurd (omega (arith, ap length none))

module _ {X : Type 0} (es fs : List ((ℤ × ℤ) × X)) (e : (ℤ × ℤ) × X) (p : ℤ × ℤ)
    (end : Some e ≡ slice_get es (length es - 1)) (other : e.0.0 ≡ p.0 → ⊥) (moved : IsPermutation es fs) where
  apart : (last (keys_of es)).0 ≡ p.0 → ⊥
  apart f = other (rw (last_key 0 es e p end) f)

  -- the keys are sorted in another order, and a pair comes after each of them
  moved_with : ((i : ℕ) → i < length (keys_of es) → pair_cmp (key_at (keys_of es) i) p ≡ Less)
      → AreSorted (keys_of fs) → AreSorted (keys_of fs ++ p ∷ [])
  moved_with each up =
      sorted_more (keys_of fs) p up (λ some.
      (let all = All-map-IsPermutation (λ (x : (ℤ × ℤ) × X). x.0) (λ k. pair_cmp k p ≡ Less) es fs moved
      (all_keys (λ k. pair_cmp k p ≡ Less) (keys_of es) each) in
      all (length (keys_of fs) - 1) (pos 0, pos 0) (omega arith)))

  -- a pair of another tail after the last key, once the group is sorted
  pub sorted_after : (begin : ℕ) (group : Group) → ShowsGroup begin group (keys_of es)
      → pair_cmp e.0 p ≡ Less → AreSorted (keys_of fs) → AreSorted (keys_of fs ++ p ∷ [])
  sorted_after begin group shows below up =
      moved_with (λ i lt. all_below (keys_of es) p apart
      (rw (last_key 0 es e p end) at below) begin group shows i lt) up
