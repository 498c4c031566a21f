-- Lemmas on two walks in step, by ascending key.
use Rattle.std.proofs.Common.{◌≡◌, inl, inr, ◌+◌, ◌<◌, length, List, [], ◌∷◌, Bool, true, false, cond, Option, Some, None, refl, sym, ap, ◌∙◌, arith}
use Rattle.std.specs.BTreeMap.{is_at}
use Rattle.std.specs.Cmp.{IsTotalOrder, eq_by_cmp_equiv, tied_itself}
use Rattle.std.specs.List.{AllByRecursion}
use Rattle.std.specs.List.Sorted.{IsStrictlySortedBy}
use Rattle.std.specs.Map.{keys_of, lookup}
use Rattle.std.specs.Ordering.{is_eq, match_ordering}
use Rattle.std.specs.declared.cmp.Ordering.{Ordering}
use Rattle.std.specs.declared.cmp.Ordering.TheVariants.{Less, Equal, Greater}
use Rattle.std.specs.FinMap.Entries.{find, below_all, is_sorted, same_entries as entries_equal}
use Rattle.std.proofs.lemmas.Bool.{cases_Bool}
use Rattle.std.proofs.lemmas.Map.{lookup-none}
use Rattle.std.proofs.lemmas.Map.Entries.{lookup_head, lookup_tail, none_past_head, none_below_head}
use Rattle.std.proofs.lemmas.Map.Keys.{sorted_head, sorted_tail, IsDistinct-from_sorted}
use Rattle.std.proofs.lemmas.Map.Lookups.{CmpEqualImpliesEq}
use Rattle.dn_compare.specs.State.Peeked.{first_key, value_at, after_key, lesser_key}
use Rattle.dn_compare.specs.State.Partings.{Comparison, AlikeAt, IsParting}
use Rattle.dn_arc_theory.proofs.PairLaws.{equal_is, reversed}

module _ {K : Type 0} (cmp : K → K → Ordering) (total : IsTotalOrder cmp) (exact : CmpEqualImpliesEq cmp) where
  -- whether a key q is the key p that is sought
  abbrev Sought : K → K → Bool
  Sought p = is_at (cmp p)

  -- a key that is found is the key that is sought
  pub key_is : (p q : K) → Sought p q ≡ true → p ≡ q
  key_is p q h = exact p q (equal_is (cmp p q) h)

  -- a key equals itself
  pub key_self : (p : K) → cmp p p ≡ Equal
  key_self p = tied_itself total p

  module _ {V : Type 0} where
    abbrev pub Ascends : List (K × V) → Type 0
    Ascends es = IsStrictlySortedBy cmp (keys_of es)

    all_below : (k : K) (es : List (K × V)) → AllByRecursion (λ l. cmp k l ≡ Less) (keys_of es)
        → below_all cmp k es ≡ true
    all_below k [] a = refl
    all_below k (e ∷ es) a = rw a.0 (all_below k es a.1)

    sorted : (es : List (K × V)) → Ascends es → is_sorted cmp es ≡ true
    sorted [] s = refl
    sorted (e ∷ es) s =
        rw (all_below e.0 es (sorted_head cmp e.0 (keys_of es) s)) (sorted es (sorted_tail cmp e.0 (keys_of es) s))

    find_is : (q : K) (es : List (K × V)) → find cmp q es ≡ lookup (Sought q) es
    find_is q [] = refl
    find_is q (e ∷ es) = ap (λ o. cond (Sought q e.0) (Some e.1) o) (find_is q es)

    -- ascending entries with the same value at every key are equal
    pub same_entries : (es fs : List (K × V)) → Ascends es → Ascends fs
        → ((q : K) → lookup (Sought q) es ≡ lookup (Sought q) fs) → es ≡ fs
    same_entries es fs s t h =
        entries_equal cmp total exact es fs (rw (sorted es s) tt) (rw (sorted fs t) tt)
        (λ q. find_is q es ∙ h q ∙ sym (find_is q fs))

    -- ---- one turn: what going past the key p does to the entries of one side, whose value there is v

    pub record Passes (p : K) (es : List (K × V)) (v : Option V) (rest : List (K × V)) : Type 0 where
      pub there : lookup (Sought p) es ≡ v
      pub gone : lookup (Sought p) rest ≡ None
      pub others : (q : K) → Sought p q ≡ false → lookup (Sought q) rest ≡ lookup (Sought q) es
      pub before : (q : K) → cmp q p ≡ Less → lookup (Sought q) es ≡ None
      pub ascends : Ascends rest
      pub size : length rest < length es + 1

    -- a key below the first has no value
    none_below : (q : K) (e : K × V) (es : List (K × V)) → Ascends (e ∷ es) → cmp q e.0 ≡ Less
        → lookup (Sought q) (e ∷ es) ≡ None
    none_below q e es s l = lookup-none (Sought q) (e ∷ es) (none_below_head total q e es s l)

    passes_here : (e : K × V) (es : List (K × V)) → Ascends (e ∷ es) → Passes e.0 (e ∷ es) (Some e.1) es
    passes_here e es s = record {
      there = lookup_head (Sought e.0) e es (ap is_eq (key_self e.0));
      gone =
          lookup-none (Sought e.0) es
          (none_past_head (eq_by_cmp_equiv total) e.0 e es (IsDistinct-from_sorted cmp (keys_of (e ∷ es)) s)
          (ap is_eq (key_self e.0)));
      others = λ q f. sym (lookup_tail (Sought q) e es ((eq_by_cmp_equiv total).symm q e.0 ∙ f));
      before = λ q l. none_below q e es s l;
      ascends = sorted_tail cmp e.0 (keys_of es) s;
      size = omega arith;
    }

    passes_below : (p : K) (e : K × V) (es : List (K × V)) → Ascends (e ∷ es) → cmp p e.0 ≡ Less
        → Passes p (e ∷ es) None (e ∷ es)
    passes_below p e es s l = record {
      there = none_below p e es s l;
      gone = none_below p e es s l;
      others = λ q f. refl;
      before = λ q k. none_below q e es s (total.trans q p e.0 k l);
      ascends = s;
      size = omega arith;
    }

    -- what a walk takes at p: the value v, and the entries that it then has left
    abbrev Takes : K → List (K × V) → Option V → List (K × V) → Type 0
    Takes p es v rest = (v ≡ value_at (Sought p) es) × (rest ≡ after_key (Sought p) es)

    module _ {p : K} {v : Option V} {rest : List (K × V)} (e : K × V) (es : List (K × V)) (s : Ascends (e ∷ es))
        (t : Takes p (e ∷ es) v rest) where
      here : p ≡ e.0 → Passes p (e ∷ es) v rest × (length rest < length es + 1)
      here i =
          let found : Sought p e.0 ≡ true = rw i (ap is_eq (key_self e.0)) in
          let value : v ≡ Some e.1 = rw found at t.0 in
          let left : rest ≡ es = rw found at t.1 in
          (rw (value, left, i) (passes_here e es s), omega (arith, ap length left))

      below : cmp p e.0 ≡ Less → Passes p (e ∷ es) v rest
      below l =
          let value : v ≡ None = rw l at t.0 in
          let left : rest ≡ e ∷ es = rw l at t.1 in
          rw (value, left) (passes_below p e es s l)

    ended_side : {p : K} {v : Option V} {rest : List (K × V)} → Takes p [] v rest → Passes p [] v rest
    unfolding IsStrictlySortedBy
    ended_side t = rw (t.0, t.1) (record {
      there = refl;
      gone = refl;
      others = λ q f. refl;
      before = λ q l. refl;
      ascends = tt;
      size = omega arith;
    })

    -- one turn of both sides
    pub record Turns (p : K) (ls rs : List (K × V)) (a b : Option V) (ls' rs' : List (K × V)) : Type 0 where
      pub left : Passes p ls a ls'
      pub right : Passes p rs b rs'
      pub fewer : length ls' + length rs' < length ls + length rs

    module _ {p : K} {a b : Option V} {ls' rs' : List (K × V)} where
      by_order : (l r : K × V) (ls rs : List (K × V)) (o : Ordering) → cmp l.0 r.0 ≡ o
          → Some (match_ordering o l.0 l.0 r.0) ≡ Some p → Ascends (l ∷ ls) → Ascends (r ∷ rs) → Takes p (l ∷ ls) a ls'
          → Takes p (r ∷ rs) b rs' → Turns p (l ∷ ls) (r ∷ rs) a b ls' rs'
      by_order l r ls rs Less h e s t x y =
          let one : p ≡ l.0 = cc in
          let left = here l ls s x one in
          let right = below r rs t y (rw one h) in
          record { left = left.0; right = right; fewer = omega (arith, left.1, right.size) }
      by_order l r ls rs Equal h e s t x y =
          let one : p ≡ l.0 = cc in
          let left = here l ls s x one in
          let right = here r rs t y (one ∙ exact l.0 r.0 h) in
          record { left = left.0; right = right.0; fewer = omega (arith, left.1, right.1) }
      by_order l r ls rs Greater h e s t x y =
          let one : p ≡ r.0 = cc in
          let left = below l ls s x (rw one (reversed (cmp r.0 l.0) (sym h ∙ total.antisymm l.0 r.0))) in
          let right = here r rs t y one in
          record { left = left; right = right.0; fewer = omega (arith, left.size, right.1) }

      pub turn : (ls rs : List (K × V)) → lesser_key cmp (first_key ls) (first_key rs) ≡ Some p → Ascends ls
          → Ascends rs → Takes p ls a ls' → Takes p rs b rs' → Turns p ls rs a b ls' rs'
      turn [] [] e s t x y = cc
      turn [] (r ∷ rs) e s t x y =
          let right = here r rs t y (cc) in
          let left = ended_side x in
          record { left = left; right = right.0; fewer = omega (arith, left.size, right.1) }
      turn (l ∷ ls) [] e s t x y =
          let left = here l ls s x (cc) in
          let right = ended_side y in
          record { left = left.0; right = right; fewer = omega (arith, left.1, right.size) }
      turn (l ∷ ls) (r ∷ rs) e s t x y = by_order l r ls rs (cmp l.0 r.0) refl e s t x y

  -- ---- the remaining entries decide

  module _ {V W : Type 0} (by : Comparison V W) (nothing : by.Alike None None)
      (no_differ : (what : W) → by.Differ None None what → ⊥) where
    -- if both walks have ended, the entries do not differ
    pub ended : (ls rs : List (K × V)) → lesser_key cmp (first_key ls) (first_key rs) ≡ None
        → IsParting cmp by ls rs None
    ended [] [] last = λ q. nothing
    ended (l ∷ ls) [] last = cc
    ended _ _ last = cc

    module _ {p : K} {ls rs ls' rs' : List (K × V)} {a b : Option V} (t : Turns p ls rs a b ls' rs') where
      -- after a key with the same value on both sides, the first difference of the remaining entries is that of all
      -- entries
      pub kept : by.Alike a b → (o : Option (K × W)) → IsParting cmp by ls' rs' o → IsParting cmp by ls rs o
      kept same o h = by_answer o h
        where
          same_at : (q : K) → AlikeAt cmp by ls' rs' q → AlikeAt cmp by ls rs q
          same_at q h = elim (cases_Bool (Sought p q)) [
            | inl e ↦ rw (← key_is p q e, t.left.there, t.right.there, AlikeAt) same
            | inr e ↦ rw (← t.left.others q e, ← t.right.others q e, AlikeAt) h
          ]

          differ_at : (q : K) (what : W) → by.Differ (lookup (Sought q) ls') (lookup (Sought q) rs') what
              → by.Differ (lookup (Sought q) ls) (lookup (Sought q) rs) what
          differ_at q what h = elim (cases_Bool (Sought p q)) [
            | inl e ↦ absurd (no_differ what (rw (← key_is p q e, t.left.gone, t.right.gone) at h))
            | inr e ↦ rw (← t.left.others q e, ← t.right.others q e) h
          ]

          by_answer : (o : Option (K × W)) → IsParting cmp by ls' rs' o → IsParting cmp by ls rs o
          by_answer None h = λ q. same_at q (h q)
          by_answer (Some x) h =
              record { differ = differ_at x.0 x.1 h.differ; same_before = λ q l. same_at q (h.same_before q l) }

      -- a key with different values is the first difference
      pub halted : (what : W) → by.Differ a b what → IsParting cmp by ls rs (Some (p, what))
      halted what d = record {
        differ = rw (t.left.there, t.right.there) d;
        same_before = λ q l. rw (t.left.before q l, t.right.before q l, AlikeAt) nothing;
      }
