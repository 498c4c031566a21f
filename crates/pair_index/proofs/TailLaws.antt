-- Chains by tail: a step along a chain, and the position of a pair in a chain.
use Rattle.std.proofs.Common.{◌≡◌, ℕ, zero, suc, ◌+◌, ◌-◌, ◌<◌, ◌≤◌, ℤ, pos, ◌<ℤ◌, ◌≤ℤ◌, List, [], ◌∷◌, ◌++◌, length, get_or, replicate, Bool, true, false, cond, inl, inr, refl, sym, ap, ◌∙◌, arith}
use Rattle.std.specs.List.{list_any, count_by}
use lib.Signed.{lt_z}
use Rattle.std.proofs.lemmas.Int.{ints, by_lt_z}
use Rattle.std.proofs.lemmas.Bool.{cases_lt}
use Rattle.std.proofs.lemmas.List.{length-append, length-replicate, get_or_append_left, get_or-append_right, get_or-replicate}
use Rattle.std.proofs.lemmas.List.Sums.{sum_by-cons, sum_by-le-sum_by}
use Rattle.dn_arc_theory.specs.Pairs.{same_pair}
use Rattle.pair_index.specs.State.Positions.{key_at}
use Rattle.pair_index.specs.State.Tailed.{LeadsTo, Links, Sought}
use Rattle.pair_index.proofs.PositionLaws.{none_from_positions}

-- if one test implies another, it counts at most as much
test_le : (a b : Bool) → (a ≡ true → b ≡ true) → cond a 1 0 ≤ cond b 1 0
test_le true b h = rw (h refl) (omega arith)
test_le false b h = omega arith

module _ {X : Type 0} (p q : X → Bool) (less : (x : X) → q x ≡ true → p x ≡ true) where
  count_le : (xs : List X) → count_by q xs ≤ count_by p xs
  count_le xs = sum_by-le-sum_by (λ x. cond (q x) 1 0) (λ x. cond (p x) 1 0) xs (λ x. test_le (q x) (p x) (less x))

  pub count_fewer : (xs : List X) (i : ℕ) (d : X) → i < length xs → p (get_or xs i d) ≡ true → q (get_or xs i d) ≡ false
      → count_by q xs < count_by p xs
  count_fewer [] i d lt passes fails = absurd (omega arith)
  count_fewer (x ∷ xs) zero d lt passes fails =
      let one = sum_by-cons (λ (y : X). cond (q y) 1 0) x xs in
      let two = sum_by-cons (λ (y : X). cond (p y) 1 0) x xs in
      let none : cond {A = ℕ} (q x) 1 0 ≡ 0 = rw fails in
      let some : cond {A = ℕ} (p x) 1 0 ≡ 1 = rw passes in
      let rest : count_by q xs ≤ count_by p xs = count_le xs in
      omega (arith, one, two)
  count_fewer (x ∷ xs) (suc i) d lt passes fails =
      let one = sum_by-cons (λ (y : X). cond (q y) 1 0) x xs in
      let two = sum_by-cons (λ (y : X). cond (p y) 1 0) x xs in
      let rest : count_by q xs < count_by p xs = count_fewer xs i d (omega arith) passes fails in
      omega (arith, one, two, test_le (q x) (p x) (less x))

-- how many positions a chain can reach from a link on, which decreases along a chain
abbrev pub left_of : List (ℤ × ℤ) → ℕ → ℕ
left_of keys zero = 0
left_of keys (suc j) = suc (count_by (λ k. lt_z (key_at keys j).1 k.1) keys)

lt_true : (a b : ℤ) → a <ℤ b → lt_z a b ≡ true
lt_true a b h = grind (arith, ints)

lt_self : (a : ℤ) → lt_z a a ≡ false
lt_self a = grind (arith, ints)

lt_trans : (a b c : ℤ) → a <ℤ b → lt_z b c ≡ true → lt_z a c ≡ true
lt_trans a b c h k = grind (arith, ints)

-- a link other than 0 leads to the position of a key with the pair's tail
pub sought_inside : {keys : List (ℤ × ℤ)} (pair : ℤ × ℤ) (before link : ℕ) → (link ≡ 0 → ⊥)
    → Sought keys pair before link → (link - 1 < length keys) × ((key_at keys (link - 1)).0 ≡ pair.0)
sought_inside pair before link some (inl s) = s.on.there (link - 1) (omega (arith, some))
sought_inside pair before link some (inr s) =
    (let at = s.on.there (link - 1) (omega (arith, some)) in (at.0, at.1.0 ∙ s.tail))

module _ (heads next : List ℕ) (keys : List (ℤ × ℤ)) (links : Links heads next keys) where
  falls_at : (at then : ℕ) → at < length keys → then ≡ get_or next at 0 → (l : ℕ) → l ≡ then
      → left_of keys l < left_of keys (suc at)
  falls_at at then inside e zero f = omega arith
  falls_at at then inside e (suc j) f =
      let on = (links.at_next at inside).there j (sym (f ∙ e)) in
      let ascends : (key_at keys at).1 <ℤ (key_at keys j).1 = on.1.1 in
      let fewer : count_by (λ (k : ℤ × ℤ). lt_z (key_at keys j).1 k.1) keys < count_by
      (λ (k : ℤ × ℤ). lt_z (key_at keys at).1 k.1) keys =
      count_fewer (λ (k : ℤ × ℤ). lt_z (key_at keys at).1 k.1) (λ (k : ℤ × ℤ). lt_z (key_at keys j).1 k.1)
      (λ k h. lt_trans (key_at keys at).1 (key_at keys j).1 k.1 ascends h)
      keys j (pos 0, pos 0) on.0 (lt_true (key_at keys at).1 (key_at keys j).1 ascends) (lt_self (key_at keys j).1) in
      omega arith

  -- a step along a chain decreases the measure
  pub falls : (link then : ℕ) → (link ≡ 0 → ⊥) → link - 1 < length keys → then ≡ get_or next (link - 1) 0
      → left_of keys then < left_of keys link
  falls link then some inside e =
      let back : link ≡ suc (link - 1) = omega (arith, some) in
      rw back (falls_at (link - 1) then inside e then refl)

  -- a tail beyond the chains has no position
  pub none_there : (tail : ℕ) (pair : ℤ × ℤ) → pair.0 ≡ pos tail → length heads ≤ tail
      → LeadsTo keys (λ p. p.0 ≡ pair.0) 0
  none_there tail pair is past = record {
    there = λ i e. absurd (omega arith);
    least = λ i inside e.
        let t = links.tails i inside in
        absurd (omega (arith, ints, t.1, sym t.2 ∙ e ∙ is));
  }

  -- a tail below 0 has no position
  pub none_below : (pair : ℤ × ℤ) → pair.0 <ℤ pos 0 → LeadsTo keys (λ p. p.0 ≡ pair.0) 0
  none_below pair below = record {
    there = λ i e. absurd (omega arith);
    least = λ i inside e. absurd (omega (arith, ints, sym (links.tails i inside).2 ∙ e, below));
  }

  pub first_there : (tail : ℕ) (pair : ℤ × ℤ) (link : ℕ) → pair.0 ≡ pos tail → tail < length heads
      → link ≡ get_or heads tail 0 → LeadsTo keys (λ p. p.0 ≡ pair.0) link
  first_there tail pair link is inside e = rw (e, is) (links.at_head tail inside)

  -- after a lesser head, the search for a pair continues at the next link
  pub sought_on : (pair : ℤ × ℤ) (before link then : ℕ) → (link ≡ 0 → ⊥) → Sought keys pair before link
      → (key_at keys (link - 1)).1 <ℤ pair.1 → then ≡ get_or next (link - 1) 0 → Sought keys pair link then
  sought_on pair before link then some sought less e =
      let at = sought_inside pair before link some sought in
      inr (record {
        at = link - 1;
        is = omega (arith, some);
        inside = at.0;
        tail = at.1;
        below = less;
        on = rw e (links.at_next (link - 1) at.0);
      })

-- a pair is determined by its tail and its head
pub pair_from : (p q : ℤ × ℤ) → p.0 ≡ q.0 → p.1 ≡ q.1 → p ≡ q
pair_from p q e f = ap (λ (a : ℤ). (a, p.1)) e ∙ ap (λ (b : ℤ). (q.0, b)) f

-- what a spot shows
module _ (keys : List (ℤ × ℤ)) (pair : ℤ × ℤ) (before after : ℕ)
    (stops : (i : ℕ) → after ≡ suc i → pair.1 ≤ℤ (key_at keys i).1) where
  -- `after` leads to the least head that is not below the pair's
  pub least_from : Sought keys pair before after → (i : ℕ) → i < length keys → (key_at keys i).0 ≡ pair.0
      → pair.1 ≤ℤ (key_at keys i).1 → (j : ℕ) × (after ≡ suc j) × ((key_at keys j).1 ≤ℤ (key_at keys i).1)
  least_from (inl s) i inside tail up = s.on.least i inside tail
  least_from (inr s) i inside tail up = s.on.least i inside (tail ∙ sym s.tail, omega (arith, ints, s.below, up))

  -- if the pair is among the keys, `after` leads to its head
  pub found : (i : ℕ) → Sought keys pair before after → i < length keys → key_at keys i ≡ pair → (j : ℕ)
      × (after ≡ suc j) × ((key_at keys j).1 ≡ pair.1)
  found i sought inside e =
      let head : (key_at keys i).1 ≡ pair.1 = ap (λ (p : ℤ × ℤ). p.1) e in
      let l = least_from sought i inside (ap (λ (p : ℤ × ℤ). p.0) e) (omega (arith, ints, head)) in
      (l.0, l.1, omega (arith, ints, stops l.0 l.1, l.2, head))

  -- `before` leads to the greatest head below the pair's
  pub greatest_before : Sought keys pair before after → (i : ℕ) → i < length keys → (key_at keys i).0 ≡ pair.0
      → (key_at keys i).1 <ℤ pair.1 → (b : ℕ) × (before ≡ suc b) × (b < length keys) × ((key_at keys b).0 ≡ pair.0)
      × ((key_at keys b).1 <ℤ pair.1) × ((key_at keys i).1 ≤ℤ (key_at keys b).1)
  greatest_before (inl s) i inside tail low =
      let l = s.on.least i inside tail in
      absurd (omega (arith, ints, stops l.0 l.1, l.2, low))
  greatest_before (inr s) i inside tail low =
      by_lt_z (key_at keys s.at).1 (key_at keys i).1
      (λ past.
      let l = s.on.least i inside (tail ∙ sym s.tail, past) in
      absurd (omega (arith, ints, stops l.0 l.1, l.2, low)))
      (λ upto. (s.at, s.is, s.inside, s.tail, s.below, upto))

  -- if `after` is 0, the pair is not among the keys
  pub nowhere_past : Sought keys pair before after → after ≡ 0 → list_any (same_pair pair) keys ≡ false
  nowhere_past sought e = none_from_positions pair keys (λ i lt is. omega (arith, (found i sought lt is).1))

  -- if another pair is at `after`, the pair is not among the keys
  pub nowhere_else : Sought keys pair before after → (after ≡ 0 → ⊥) → (key_at keys (after - 1) ≡ pair → ⊥)
      → list_any (same_pair pair) keys ≡ false
  nowhere_else sought some other = none_from_positions pair keys (λ i lt is.
      let at = found i sought lt is in
      let back : after - 1 ≡ at.0 = omega (arith, at.1) in
      other (pair_from (key_at keys (after - 1)) pair (sought_inside pair before after some sought).1 (rw back at.2)))

-- each position of a key has a link
pub has_next : {heads next : List ℕ} {keys : List (ℤ × ℤ)} {i : ℕ} → Links heads next keys → i < length keys
    → i < length next
has_next links inside = rw links.same inside

-- a number that is not at most another is above it
pub past_head : (a b : ℤ) → (a ≤ℤ b → ⊥) → b <ℤ a
past_head a b h = by_lt_z b a (λ l. l) (λ l. absurd (h l))

-- the links remain right with more tails that have no positions
pub links_wider : (heads next : List ℕ) (keys : List (ℤ × ℤ)) (m : ℕ) → Links heads next keys
    → Links (heads ++ replicate m 0) next keys
links_wider heads next keys m links = record {
  same = links.same;
  apart = links.apart;
  tails = λ i lt.
      let t = links.tails i lt in
      (t.0, omega (arith, t.1, length-append heads (replicate m 0)), t.2);
  at_head = λ t lt. elim (cases_lt t (length heads)) [
    | inl l ↦ rw (get_or_append_left heads (replicate m 0) 0 t l) (links.at_head t l)
    | inr l ↦
        let past : t < length heads + m = rw (length-append, length-replicate) at lt in
        rw (get_or-append_right heads (replicate m 0) (length heads) t 0 refl l)
        (rw (get_or-replicate {A = ℕ} m (t - length heads) 0 0 (omega arith))
        (none_there heads next keys links t (pos t, pos 0) refl l))
  ];
  at_next = links.at_next;
}
