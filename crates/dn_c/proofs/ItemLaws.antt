-- Items that are left after a cursor between items.
use Rattle.std.proofs.Common.{inl, inr, ◌≡◌, ◌<◌, ◌≤◌, ◌+◌, ◌-◌, ◌^◌, ℕ, ℤ, List, [], ◌∷◌, ◌++◌, map, take, drop, length, min, Less, Equal, Greater, true, false, nat_eq, refl, sym, ap, subst, ◌∙◌, arith, int_cmp, length-drop, drop-drop}
use Rattle.std.specs.Ordering.{is_lt}
use Rattle.std.specs.declared.cmp.Ordering.{Ordering}
use Rattle.std.proofs.lemmas.Bool.{cases_Bool}
use Rattle.std.proofs.lemmas.Cmp.{int_cmp_total}
use Rattle.std.proofs.Math.Nat.{min-eq_left}
use Rattle.std.proofs.Math.Seq.{drop-append_seam}
use Rattle.std.proofs.lemmas.List.{length-take-le}
use Rattle.dn_instance.specs.State.Helds.{Contents, OfMin, OfMax, OfSp, OfSs, OfP2p, OfCo}
use Rattle.dn_nodes.specs.State.Nodes.{after, Ascends}
use Rattle.dn_arc_theory.proofs.PairLaws.{int_self}
use Rattle.dn_nodes.proofs.AfterLaws.{all_after, passed}
use Rattle.dn_nodes.proofs.KeyLaws.{above_trans, ascends_head, ascends_tail}
use Rattle.dn_c.specs.State.Items.{flow_item, point_item, left_items, listed_items, nodes_left, IsListed}
use Rattle.dn_c.specs.State.Cursors.{behind}
use Rattle.dn_c.specs.declared.items.Item.{Item}
use Rattle.dn_c.specs.declared.cursor.Cursor.{Cursor}

less_is : (o : Ordering) → is_lt o ≡ true → o ≡ Less
less_is Less h = refl
less_is Equal h = cc h
less_is Greater h = cc h

module _ {V : Type 0} where
  -- an entry is not after its own node
  self_passed : (e : ℤ × V) (es : List (ℤ × V)) → after e.0 (e ∷ es) ≡ after e.0 es
  self_passed e es = passed e.0 e es (rw (int_self e.0) refl)

  -- after the first entry that is after a node, the others are left
  after_first : (k : ℤ) (es : List (ℤ × V)) (e : ℤ × V) (rest : List (ℤ × V)) → Ascends es → after k es ≡ e ∷ rest
      → (int_cmp k e.0 ≡ Less) × (after e.0 es ≡ rest)
  after_first k [] e rest r h = cc h
  after_first k (x ∷ es) e rest r h = elim (cases_Bool (is_lt (int_cmp k x.0))) [
    | inl t ↦
        let less = less_is (int_cmp k x.0) t in
        let all = all_after k es (above_trans k x.0 es less (ascends_head x es r)) in
        let is : x ∷ es ≡ e ∷ rest = rw (t, all) at h in
        let first : x ≡ e = cc is in
        let others : es ≡ rest = cc is in
        subst (λ (y : ℤ × V). (int_cmp k y.0 ≡ Less) × (after y.0 (x ∷ es) ≡ rest)) first
        (less, self_passed x es ∙ all_after x.0 es (ascends_head x es r) ∙ others)
    | inr t ↦
        let got = after_first k es e rest (ascends_tail x es r) (rw t at h) in
        (got.0, passed e.0 x es (above_passed k x.0 e.0 t got.0) ∙ got.1)
  ]
    where
      above_passed : (k x e : ℤ) → is_lt (int_cmp k x) ≡ false → int_cmp k e ≡ Less → is_lt (int_cmp e x) ≡ false
      above_passed k x e t l = elim (cases_Bool (is_lt (int_cmp e x))) [
        | inl u ↦ cc (rw (int_cmp_total.trans k e x l (less_is (int_cmp e x) u)) at t)
        | inr u ↦ u
      ]

  -- one more entry is before the cursor
  nodes_step : (cursor : Cursor) (es : List (ℤ × V)) (e : ℤ × V) (rest : List (ℤ × V)) → Ascends es
      → nodes_left cursor es ≡ e ∷ rest → after e.0 es ≡ rest
  nodes_step cursor es e rest r h = elim (cases_Bool (nat_eq cursor.within 0)) [
    | inl t ↦
        let is : es ≡ e ∷ rest = rw t at h in
        rw is (self_passed e rest ∙ all_after e.0 rest (ascends_head e rest (rw is at r)))
    | inr t ↦ (after_first cursor.a es e rest r (rw t at h)).1
  ]

  mapped_step : (item_of : ℤ × V → Item) → ((e : ℤ × V) → (item_of e).id ≡ e.0) → (cursor : Cursor) (es : List (ℤ × V))
      (item : Item) (rest : List Item) → Ascends es → map item_of (nodes_left cursor es) ≡ item ∷ rest
      → map item_of (after item.id es) ≡ rest
  mapped_step item_of keeps cursor es item rest r h = go (nodes_left cursor es) refl h
    where
      go : (left : List (ℤ × V)) → nodes_left cursor es ≡ left → map item_of left ≡ item ∷ rest
          → map item_of (after item.id es) ≡ rest
      go [] e m = cc m
      go (x ∷ left) e m =
          let first : item_of x ≡ item = cc m in
          let others : map item_of left ≡ rest = cc m in
          let id : item.id ≡ x.0 = ap (λ (i : Item). i.id) (sym first) ∙ keeps x in
          rw (id, nodes_step cursor es x left r e) others

-- one more element of a list is before the cursor
list_step : (all : List Item) (n : ℕ) (item : Item) (rest : List Item) → length all < 2 ^ 64 → drop n all ≡ item ∷ rest
    → drop (min (n + 1) (2 ^ 64 - 1)) all ≡ rest
list_step all n item rest short h =
    let low : n + 1 ≤ 2 ^ 64 - 1 = omega (arith, short, ap length h, length-drop n all) in
    rw (min-eq_left low) (sym (drop-drop 1 n all) ∙ ap (drop 1) h)

-- one more item is before the cursor
pub items_step : (contents : Contents) (cursor : Cursor) (item : Item) (rest : List Item) → IsListed contents
    → left_items contents cursor ≡ item ∷ rest → left_items contents (behind cursor item.id) ≡ rest
items_step (OfMin flows table) cursor item rest r h = mapped_step flow_item (λ e. refl) cursor flows item rest r h
items_step (OfCo points) cursor item rest r h = mapped_step point_item (λ e. refl) cursor points item rest r h
items_step (OfMax source sink table) cursor item rest r h =
    list_step (listed_items (OfMax source sink table)) cursor.pairs item rest r h
items_step (OfSp table) cursor item rest r h = list_step [] cursor.pairs item rest r h
items_step (OfSs ids) cursor item rest r h = list_step (listed_items (OfSs ids)) cursor.pairs item rest r h
items_step (OfP2p pairs) cursor item rest r h = list_step (listed_items (OfP2p pairs)) cursor.pairs item rest r h

-- what follows the first of a list
pub after_taken : {A : Type 0} (n : ℕ) (xs rest all : List A) → n ≤ length xs → take n xs ++ rest ≡ all
    → drop n all ≡ rest
after_taken n xs rest all le h =
    ap (drop n) (sym h) ∙ ap (λ m. drop m (take n xs ++ rest)) (sym (length-take-le n xs le))
    ∙ drop-append_seam (take n xs) rest
