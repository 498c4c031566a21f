-- Lemmas on a walk over canonical arcs.
use Rattle.std.proofs.Common.{◌≡◌, ◌≤◌, ◌<◌, ◌+◌, ℕ, ℤ, zero, suc, List, [], ◌∷◌, ◌++◌, length, take, drop, slice_get, Option, None, Some, Contains, refl, sym, ap, ◌∙◌, arith, drop-drop, length-drop, length-append, take-add}
use Rattle.dn_canon.specs.State.ListedArcs.{placed, listed_arcs}
use Rattle.dn_canon.proofs.LineLaws.{drop_get}
use Rattle.std.proofs.lemmas.List.{length-map, get_or-map, map-append, take-map, drop-map, take_more_set}
use Rattle.std.proofs.lemmas.List.Elements.{All-nil, All-push, Contains-append_left, Contains-append_right}
use Rattle.dn_c.specs.State.Cursors.{last_before, cursor_after, cursor_with}
use Rattle.dn_c.specs.State.Walks.{CopiesFrom, CopiesListed, Fills, HasRows, IsNextArc, IsLeft, IsLeftAfter}
use Rattle.dn_c.specs.State.Rows.{row_of, rows_by}
use Rattle.dn_c.specs.declared.arcs.Arc.{Arc}
use Rattle.dn_c.specs.declared.cursor.Cursor.{Cursor}
use Rattle.dn_c.specs.declared.status.Count.{Count}
use Rattle.dn_c.specs.State.Statuses.{fine_count}
use Rattle.std.proofs.Common.{subst}
use Rattle.std.specs.Prelude.{set, pos}

-- nothing is left of a list after its last element
none_left : {A : Type 0} (xs : List A) (k : ℕ) → None ≡ slice_get xs k → drop k xs ≡ []
none_left [] zero e = refl
none_left [] (suc k) e = refl
none_left (x ∷ xs) zero e = cc
none_left (x ∷ xs) (suc k) e = none_left xs k e

module _ {B A : Type 0} (lists : B → List A) (e : (ℤ × ℤ) × B) (table : List ((ℤ × ℤ) × B))
    (left : List ((ℤ × ℤ) × A)) where
  abbrev from : ℕ → List ((ℤ × ℤ) × A)
  from k = placed e.0 (drop k (lists e.1)) ++ listed_arcs lists table

  abbrev Goes : A → Type 0
  Goes x = (rest : List ((ℤ × ℤ) × A)) × (left ≡ (e.0, x) ∷ rest) × IsLeft lists (e ∷ table) (Some x) rest

  goes_from : (k : ℕ) (x : A) → Some x ≡ slice_get (lists e.1) k → left ≡ from k → Goes x
  goes_from k x here h = (
    from (k + 1),
    h ∙ ap (λ l. placed e.0 l ++ listed_arcs lists table) (drop_get (lists e.1) k x (sym here)),
    (k, sym here, refl),
  )

  -- if the pair has another arc, that is the next one
  pub goes_on : (last : Option A) (x : A) → IsLeft lists (e ∷ table) last left → IsNextArc (lists e.1) last (Some x) →
      Goes x
  goes_on None x h next = goes_from 0 x next h
  goes_on (Some y) x h next = goes_from (h.0 + 1) x (next h.0 h.1) h.2

  past_from : (k : ℕ) → None ≡ slice_get (lists e.1) k → left ≡ from k → left ≡ listed_arcs lists table
  past_from k none h = h ∙ ap (λ l. placed e.0 l ++ listed_arcs lists table) (none_left (lists e.1) k none)

  -- if it has no other, the walk goes on with the pairs after it
  pub goes_past : (last : Option A) → IsLeft lists (e ∷ table) last left → IsNextArc (lists e.1) last None
      → IsLeft lists table None left
  goes_past None h next = past_from 0 next h
  goes_past (Some y) h next = past_from (h.0 + 1) (next h.0 h.1) h.2

module _ {B A : Type 0} (lists : B → List A) where
  placed_in : (p : ℤ × ℤ) (xs : List A) (x : A) → Contains xs x → Contains (placed p xs) (p, x)
  placed_in p xs x (k, low, is) = (
    k,
    omega (arith, low, length-map {B = (ℤ × ℤ) × A} xs (λ a. (p, a))),
    get_or-map {Y = (ℤ × ℤ) × A} (λ a. (p, a)) xs k x (p, x) low ∙ ap (λ a. (p, a)) is,
  )

  -- an arc that a bundle of the table lists is one of the table
  pub listed_in : (table : List ((ℤ × ℤ) × B)) (at : ℕ) (e : (ℤ × ℤ) × B) (rest : List ((ℤ × ℤ) × B))
      → drop at table ≡ e ∷ rest → (x : A) → Contains (lists e.1) x → Contains (listed_arcs lists table) (e.0, x)
  listed_in [] at e rest is x h = absurd (omega (arith, ap length is, length-drop {A = (ℤ × ℤ) × B} at []))
  listed_in (f ∷ table) zero e rest is x h =
      subst (λ t. Contains (listed_arcs lists t) (e.0, x)) (sym is)
      (Contains-append_left (placed e.0 (lists e.1)) (listed_arcs lists rest) (e.0, x)
      (placed_in e.0 (lists e.1) x h))
  listed_in (f ∷ table) (suc at) e rest is x h =
      Contains-append_right (placed f.0 (lists f.1)) (listed_arcs lists table) (e.0, x)
      (listed_in table at e rest is x h)

-- one more arc is copied
module _ {B A : Type 0} (numbers : A → List ℤ) (lists : B → List A) (table : List ((ℤ × ℤ) × B)) where
  pub none_copied : (out : List Arc) → CopiesListed numbers lists table out 0
  none_copied out = ([], All-nil _, refl, refl)

  pub more_copied : (out more : List Arc) (n : ℕ) (found : (ℤ × ℤ) × A) (row : Arc)
      → row ≡ row_of found.0 (numbers found.1) → Contains (listed_arcs lists table) found
      → ((done : List Arc) → length done ≡ n → HasRows out done → HasRows more (done ++ row ∷ []))
      → CopiesListed numbers lists table out n → CopiesListed numbers lists table more (n + 1)
  more_copied out more n found row is listed puts (arcs, all, has, long) =
      let rows = map-append (λ a. row_of a.0 (numbers a.1)) arcs (found ∷ []) in (
        arcs ++ found ∷ [],
        All-push (Contains (listed_arcs lists table)) arcs found all listed,
        rw (rows, ← is) (puts (rows_by numbers arcs) (length-map arcs _ ∙ sym long) has),
        omega (arith, long, length-append arcs (found ∷ [])),
      )

-- one more item is taken of a list
module _ {X : Type 0} (all : List X) (at : ℕ) where
  pub one_more : (x : X) (rest : List X) → drop at all ≡ x ∷ rest
      → (take (at + 1) all ≡ take at all ++ x ∷ []) × (drop (at + 1) all ≡ rest) × (at + 1 ≤ length all)
  one_more x rest e = (
    take-add at 1 all ∙ ap (λ l. take at all ++ take 1 l) e,
    sym (drop-drop 1 at all) ∙ ap (drop 1) e,
    omega (arith, ap length e, length-drop at all),
  )

  pub no_more : drop at all ≡ [] → length all ≤ at
  no_more e = omega (arith, ap length e, length-drop at all)

-- one more row is put behind these
pub has_one_more : (out done : List Arc) (at : ℕ) (x : Arc) → length done ≡ at → at < length out → HasRows out done
    → HasRows (set out at x) (done ++ x ∷ [])
has_one_more out done at x long low h =
    ap (λ n. take n (set out at x)) (length-append done (x ∷ []) ∙ ap (λ n. n + 1) long)
    ∙ take_more_set out at x low ∙ ap (λ l. l ++ x ∷ []) (ap (λ n. take n out) (sym long) ∙ h)

-- what is left by arcs is left by rows
module _ {B A : Type 0} (numbers : A → List ℤ) (lists : B → List A) (arc : Cursor → A)
    (keeps : (index : ℕ) (x : A) → arc (cursor_with index (numbers x)) ≡ x)
    (table : List ((ℤ × ℤ) × B)) where
  -- a cursor has what it was made of
  last_back : (index : ℕ) (taken : Option A) → last_before arc (cursor_after numbers index taken) ≡ taken
  last_back index None = refl
  last_back index (Some x) = ap Some (keeps index x)

  pairs_back : (index : ℕ) (taken : Option A) → (cursor_after numbers index taken).pairs ≡ index
  pairs_back index None = refl
  pairs_back index (Some x) = refl

  pub copies_from : (old new : Cursor) (room : ℕ) (out : List Arc) (n next : ℕ) (last taken : Option A)
      (result : Count) → last ≡ last_before arc old → new ≡ cursor_after numbers next taken → result ≡ fine_count n
      → Fills numbers lists table old.pairs last room out n next taken → CopiesListed numbers lists table out n
      → CopiesFrom numbers lists arc table old new room out result
  copies_from old new room out n next last taken result was is fine f listed =
      rw (fine, is) (
        refl,
        λ rows h.
            let left = h.0 in
            let got = f left (rw was h.1) in
            let row = λ (x : (ℤ × ℤ) × A). row_of x.0 (numbers x.1) in
            let same : rows_by numbers (take room left) ≡ take room rows = sym (take-map row room left) ∙ ap (take room)
            (sym h.2) in (
              subst (HasRows out) same got.0,
              got.1 ∙ sym (length-map (take room left) row) ∙ ap length same,
              (
                drop n left,
                subst (λ k. IsLeft lists (drop k table) (last_before arc (cursor_after numbers next taken))
                    (drop n left))
                    (sym (pairs_back next taken))
                    (subst (λ t. IsLeft lists (drop next table) t (drop n left)) (sym (last_back next taken)) got.2),
                ap (drop n) h.2 ∙ drop-map row n left,
              ),
            ),
        listed,
      )

-- all zeros is the cursor before all arcs: there all canonical arcs of the instance are left
pub begins : {B A : Type 0} (numbers : A → List ℤ) (lists : B → List A) (arc : Cursor → A) (table : List ((ℤ × ℤ) × B))
    → IsLeftAfter numbers lists arc table (record { pairs = 0; within = 0; a = pos 0; b = pos 0; c = pos 0 })
    (rows_by numbers (listed_arcs lists table))
begins numbers lists arc table = (listed_arcs lists table, refl, refl)
