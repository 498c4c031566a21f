-- Look-ups among entries of different pairs after a change.
use Rattle.std.proofs.Common.{inl, inr, ◌≡◌, ℕ, zero, suc, ◌<◌, ℤ, List, [], ◌∷◌, ◌++◌, length, get_or, set, Bool, true, false, Option, Some, None, is_some, refl, sym, ap, ◌∙◌, arith}
use Rattle.std.specs.List.{IsDistinct, list_any, slice_get}
use Rattle.std.specs.List.Sorted.{IsStrictlySortedBy}
use Rattle.std.specs.Map.{keys_of, lookup}
use Rattle.std.proofs.lemmas.Bool.{cases_Bool}
use Rattle.std.proofs.lemmas.List.{set-get_or}
use Rattle.std.proofs.lemmas.Map.Entries.{lookup_from_place, length-keys_of}
use Rattle.std.proofs.lemmas.Map.Made.{is_some-lookup}
use Rattle.std.proofs.lemmas.Option.{slice_get-get_or}
use Rattle.dn_arc_theory.specs.Kinds.{ArcKind}
use Rattle.dn_arc_theory.specs.Pairs.{pair_cmp, same_pair}
use Rattle.dn_table.specs.State.Tables.{Grows, TableStandsFor, TableLists}
use Rattle.dn_table.proofs.PairLaws.{other_pair}
use Rattle.dn_table.proofs.TableLaws.{grows_there}
use Rattle.dn_arc_theory.proofs.PairLaws.{pair_equiv}
use Rattle.pair_index.proofs.SortedLaws.{key_of_entry}
use Rattle.pair_index.proofs.EntryLaws.{keys_kept}
use Rattle.pair_index.specs.State.Positions.{key_at}

module _ {X : Type 0} (t : ℤ × ℤ → Bool) (e : (ℤ × ℤ) × X) where
  -- the look-up of an appended entry
  pub push_found : (es : List ((ℤ × ℤ) × X)) → lookup t es ≡ None → t e.0 ≡ true → lookup t (es ++ e ∷ []) ≡ Some e.1
  push_found [] h is = rw is
  push_found (x ∷ xs) h is = elim (cases_Bool (t x.0)) [
    | inl b ↦ cc (rw b at h)
    | inr b ↦ rw b (push_found xs (rw b at h) is)
  ]

  pub push_other : (es : List ((ℤ × ℤ) × X)) → t e.0 ≡ false → lookup t (es ++ e ∷ []) ≡ lookup t es
  push_other [] is = rw is
  push_other (x ∷ xs) is = rw (push_other xs is)

  -- changing the value of one entry does not change the look-up of others
  pub set_other : (es : List ((ℤ × ℤ) × X)) (i : ℕ) (w : X) → i < length es → e ≡ get_or es i e → t e.0 ≡ false
      → lookup t (set es i (e.0, w)) ≡ lookup t es
  set_other [] i w lt is no_test = refl
  set_other (x ∷ xs) zero w lt is no_test = let f : t x.0 ≡ false = rw (← is) no_test in rw (no_test, f)
  set_other (x ∷ xs) (suc i) w lt is no_test = rw (set_other xs i w (omega arith) is no_test)

pub none_is : {X : Type 0} (o : Option X) → is_some o ≡ false → o ≡ None
none_is None h = refl
none_is (Some x) h = cc

module _ {X : Type 0} (p : ℤ × ℤ) (es : List ((ℤ × ℤ) × X)) where
  pub lookup_none : list_any (same_pair p) (keys_of es) ≡ false → lookup (same_pair p) es ≡ None
  lookup_none h = none_is (lookup (same_pair p) es) (is_some-lookup (same_pair p) es ∙ h)

  -- a pair that is not among the keys of a list has no entry in an equal list
  pub none_as : (now : List ((ℤ × ℤ) × X)) → es ≡ now → list_any (same_pair p) (keys_of es) ≡ false
      → lookup (same_pair p) now ≡ None
  none_as now same fresh = rw (← same) (lookup_none fresh)

  pub any_none : lookup (same_pair p) es ≡ None → list_any (same_pair p) (keys_of es) ≡ false
  any_none h = sym (is_some-lookup (same_pair p) es) ∙ ap is_some h

  module _ (apart : IsDistinct same_pair (keys_of es)) (i : ℕ) (e : (ℤ × ℤ) × X) (lt : i < length (keys_of es))
      (at : key_at (keys_of es) i ≡ p) (is : e ≡ get_or es i e) where
    inside : i < length es
    inside = rw length-keys_of at lt

    placed : slice_get es i ≡ Some e
    placed = rw (← is) at (slice_get-get_or es i e inside)

    pub key_here : e.0 ≡ p
    key_here = sym (key_of_entry es i e placed) ∙ at

    -- the look-up of the entry at a position
    pub found_at : lookup (same_pair p) es ≡ Some e.1
    found_at = rw (← key_here) (lookup_from_place pair_equiv es i e.0 e.1 apart placed)

    -- the look-up of an entry whose value has changed
    pub found_then : (w : X) → lookup (same_pair p) (set es i (e.0, w)) ≡ Some w
    found_then w =
        let here : slice_get (set es i (e.0, w)) i ≡ Some (e.0, w) = slice_get_set es i (e.0, w) inside in
        rw (← key_here)
        (lookup_from_place pair_equiv (set es i (e.0, w)) i e.0 w (rw (keys_kept es i e w lt is) apart) here)
      where
        slice_get_set : (xs : List ((ℤ × ℤ) × X)) (j : ℕ) (y : (ℤ × ℤ) × X) → j < length xs
            → slice_get (set xs j y) j ≡ Some y
        slice_get_set [] j y l = absurd (omega arith)
        slice_get_set (x ∷ xs) zero y l = refl
        slice_get_set (x ∷ xs) (suc j) y l = slice_get_set xs j y (omega arith)

    pub others_then : (w : X) (q : ℤ × ℤ) → same_pair p q ≡ false
        → lookup (same_pair q) (set es i (e.0, w)) ≡ lookup (same_pair q) es
    others_then w q other =
        set_other (same_pair q) e es i w inside is (ap (same_pair q) key_here ∙ other_pair p q other)

    -- setting the same value changes nothing
    pub same_then : (w : X) → w ≡ e.1 → set es i (e.0, w) ≡ es
    same_then w f = ap (λ v. set es i (e.0, v)) f ∙ ap (set es i) is ∙ set-get_or es i e

    -- if the bundle of a pair has taken an arc, the table has taken it
    pub grows_here : {Arc : Type 0} (kind : ArcKind Arc) (lists : X → List Arc) (arc : Arc) (w : X)
        → kind.Same (lists w) (lists e.1 ++ arc ∷ []) → Grows kind lists es (set es i (e.0, w)) p arc
    grows_here kind lists arc w same =
        grows_there kind lists es (set es i (e.0, w)) p arc e.1 w found_at (found_then w) (others_then w) same

-- tables with the same look-ups represent the same arcs
pub lists_as : {B Arc : Type 0} (kind : ArcKind Arc) (lists : B → List Arc) (table other : List ((ℤ × ℤ) × B))
    (arcs : List ((ℤ × ℤ) × Arc)) → ((p : ℤ × ℤ) → lookup (same_pair p) other ≡ lookup (same_pair p) table)
    → TableLists kind lists table arcs → TableLists kind lists other arcs
lists_as kind lists table other arcs same t = record {
  stands = λ p. rw (same p) (t.stands p);
  absent = λ p. rw (same p) (t.absent p);
}

-- a sorted table with the same look-ups represents the same arcs
pub stands_as : {B Arc : Type 0} (kind : ArcKind Arc) (lists : B → List Arc) (table other : List ((ℤ × ℤ) × B))
    (arcs : List ((ℤ × ℤ) × Arc)) → IsStrictlySortedBy pair_cmp (keys_of other)
    → ((p : ℤ × ℤ) → lookup (same_pair p) other ≡ lookup (same_pair p) table)
    → TableLists kind lists table arcs → TableStandsFor kind lists other arcs
stands_as kind lists table other arcs ascending same t =
    record { ascending = ascending; lists_them = lists_as kind lists table other arcs same t }
