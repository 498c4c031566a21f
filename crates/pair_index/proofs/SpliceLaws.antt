-- Linking one more position into the chain of its tail.
use Rattle.std.proofs.Common.{◌≡◌, ℕ, suc, ◌+◌, ◌-◌, ◌<◌, ◌≤◌, ℤ, pos, ◌<ℤ◌, ◌≤ℤ◌, List, [], ◌∷◌, ◌++◌, length, get_or, set, take, false, ◌⊎◌, inl, inr, refl, sym, ap, ◌∙◌, arith}
use Rattle.std.specs.List.{list_any, IsDistinct}
use Rattle.std.specs.Map.{keys_of}
use Rattle.std.proofs.lemmas.Map.Entries.{length-keys_of}
use Rattle.std.proofs.lemmas.Bool.{cases_lt, cases_eq, false≢true}
use Rattle.std.proofs.lemmas.Int.{ints, by_lt_z}
use Rattle.std.proofs.lemmas.List.{length_push, length-set, get_or_append_left, get_or_at, get_or-set_same, get_or-set_other, get_or-take, length-take-le, take-map}
use Rattle.std.proofs.lemmas.Map.Keys.{apart_from_distinct}
use Rattle.dn_arc_theory.specs.Pairs.{same_pair}
use Rattle.pair_index.specs.State.Positions.{key_at}
use Rattle.pair_index.specs.State.Tailed.{IsAfter, LeadsTo, Links, Sought}
use Rattle.dn_arc_theory.proofs.PairLaws.{pair_self}
use Rattle.pair_index.proofs.PositionLaws.{none_from_positions, fresh_at}
use Rattle.pair_index.proofs.ChainLaws.{key_of_position, key_kept, key_new}
use Rattle.pair_index.proofs.TailLaws.{least_from, greatest_before, pair_from}

-- the effect of a splice: the chain of the tail `t` has one more link, at its beginning or after the position of
-- `before`
pub record Spliced (heads tops next links : List ℕ) (t before after link : ℕ) : Type 0 where
  pub all_tops : length tops ≡ length heads
  pub all_links : length links ≡ length next + 1
  pub last : get_or links (length next) 0 ≡ after
  pub other_tops : (u : ℕ) → (u ≡ t → ⊥) → get_or tops u 0 ≡ get_or heads u 0
  pub other_links : (i : ℕ) → i < length next → (before ≡ suc i → ⊥) → get_or links i 0 ≡ get_or next i 0
  pub first : before ≡ 0 → get_or tops t 0 ≡ link
  pub not_first : (before ≡ 0 → ⊥) → get_or tops t 0 ≡ get_or heads t 0
  pub follows : (b : ℕ) → before ≡ suc b → get_or links b 0 ≡ link

-- a splice at the beginning of a chain
pub spliced_first : (heads next : List ℕ) (t before after link : ℕ) → t < length heads → before ≡ 0
    → Spliced heads (set heads t link) next (next ++ after ∷ []) t before after link
spliced_first heads next t before after link known none = record {
  all_tops = length-set heads t link;
  all_links = length_push next after;
  last = get_or_at next after [] 0 (length next) refl;
  other_tops = λ u apart. get_or-set_other heads t u link 0 apart;
  other_links = λ i lt not. get_or_append_left next (after ∷ []) 0 i lt;
  first = λ e. get_or-set_same heads t link 0 known;
  not_first = λ some. absurd (some none);
  follows = λ b e. absurd (omega (arith, e, none));
}

-- a splice after a position
pub spliced_after : (heads next : List ℕ) (t before after link : ℕ) → (before ≡ 0 → ⊥) → before - 1 < length next
    → Spliced heads heads next (set (next ++ after ∷ []) (before - 1) link) t before after link
spliced_after heads next t before after link some inside = record {
  all_tops = refl;
  all_links = length-set (next ++ after ∷ []) (before - 1) link ∙ length_push next after;
  last =
      get_or-set_other (next ++ after ∷ []) (before - 1) (length next) link 0 (λ e. omega (arith, e))
      ∙ get_or_at next after [] 0 (length next) refl;
  other_tops = λ u apart. refl;
  other_links =
      λ i lt not. get_or-set_other (next ++ after ∷ []) (before - 1) i link 0 (λ e. not (omega (arith, e, some)))
      ∙ get_or_append_left next (after ∷ []) 0 i lt;
  first = λ e. absurd (some e);
  not_first = λ e. refl;
  follows = λ b e.
      let at : before - 1 ≡ b = omega (arith, e) in
      rw (← at) (get_or-set_same (next ++ after ∷ []) (before - 1) link 0 (omega (arith, length_push next after)));
}

module _ (keys : List (ℤ × ℤ)) (k : ℤ × ℤ) where
  abbrev now : List (ℤ × ℤ)
  now = keys ++ k ∷ []

  longer : (i : ℕ) → i < length keys → i < length now
  longer i lt = omega (arith, length_push keys k)

  -- the link leads to a key that is not greater than an earlier one
  kept : (Asked : ℤ × ℤ → Type 0) (link : ℕ) → LeadsTo keys Asked link → (i : ℕ) → i < length keys
      → Asked (key_at now i) → (j : ℕ) × (link ≡ suc j) × ((key_at now j).1 ≤ℤ (key_at now i).1)
  kept Asked link old i l asked =
      let at = old.least i l (rw (key_kept keys k i l) at asked) in
      (at.0, at.1, rw (key_kept keys k at.0 (old.there at.0 at.1).0, key_kept keys k i l) at.2)

  -- the new pair does not satisfy `Asked`, so the link remains right
  still : (Asked : ℤ × ℤ → Type 0) (link : ℕ) → LeadsTo keys Asked link → (Asked k → ⊥) → LeadsTo now Asked link
  still Asked link old not = record {
    there = λ i e. (let at = old.there i e in (longer i at.0, rw (key_kept keys k i at.0) at.1));
    least = λ i lt asked. elim (cases_lt i (length keys)) [
      | inl l ↦ kept Asked link old i l asked
      | inr l ↦ absurd (not (rw (key_new keys k i (omega (arith, length_push keys k))) at asked))
    ];
  }

  -- the new pair satisfies `Asked` but is not the least, so the link remains right
  behind : (Asked : ℤ × ℤ → Type 0) (link j : ℕ) → LeadsTo keys Asked link → link ≡ suc j → (key_at keys j).1 ≤ℤ k.1
      → LeadsTo now Asked link
  behind Asked link j old is low = record {
    there = λ i e. (let at = old.there i e in (longer i at.0, rw (key_kept keys k i at.0) at.1));
    least = λ i lt asked. elim (cases_lt i (length keys)) [
      | inl l ↦ kept Asked link old i l asked
      | inr l ↦
          let new = key_new keys k i (omega (arith, length_push keys k)) in
          (j, is, rw (key_kept keys k j (old.there j is).0, new) low)
    ];
  }

  -- the new pair satisfies `Asked` and is the least, so the link to it is right
  ahead : (Asked : ℤ × ℤ → Type 0) → Asked k
      → ((i : ℕ) → i < length keys → Asked (key_at keys i) → k.1 ≤ℤ (key_at keys i).1)
      → LeadsTo now Asked (suc (length keys))
  ahead Asked here low = record {
    there = λ i e.
        (omega (arith, e, length_push keys k), rw (key_new keys k i (omega (arith, e))) here);
    least = λ i lt asked. (length keys, refl, rw (key_new keys k (length keys) refl) (low_now i lt asked));
  }
    where
      low_now : (i : ℕ) → i < length now → Asked (key_at now i) → k.1 ≤ℤ (key_at now i).1
      low_now i lt asked = elim (cases_lt i (length keys)) [
        | inl l ↦ rw (key_kept keys k i l) (low i l (rw (key_kept keys k i l) at asked))
        | inr l ↦ rw (key_new keys k i (omega (arith, length_push keys k))) (omega (arith, ints))
      ]

-- the links with one more position
module _ (heads tops next links : List ℕ) (keys : List (ℤ × ℤ)) (k : ℤ × ℤ) (t before after link : ℕ)
    (old : Links heads next keys) (fresh : list_any (same_pair k) keys ≡ false)
    (sought : Sought keys k before after) (stops : (i : ℕ) → after ≡ suc i → k.1 ≤ℤ (key_at keys i).1)
    (is : k.0 ≡ pos t) (known : t < length heads) (one : link ≡ suc (length keys))
    (done : Spliced heads tops next links t before after link) where
  -- if the splice is at the beginning, all heads of the tail are at least the new one
  all_past : before ≡ 0 → (i : ℕ) → i < length keys → (key_at keys i).0 ≡ k.0 → k.1 ≤ℤ (key_at keys i).1
  all_past none i lt tail = by_lt_z (key_at keys i).1 k.1
      (λ low. absurd (omega (arith, none, (greatest_before keys k before after stops sought i lt tail low).1)))
      (λ up. up)

  top_here : (before ≡ 0) ⊎ (before ≡ 0 → ⊥) → LeadsTo (now keys k) (λ p. p.0 ≡ pos t) (get_or tops t 0)
  top_here (inl none) =
      rw (done.first none, one)
      (ahead keys k (λ p. p.0 ≡ pos t) is (λ i lt tail. all_past none i lt (tail ∙ sym is)))
  top_here (inr some) = elim sought [
    | inl s ↦ absurd (some s.is)
    | inr s ↦
        let first = old.at_head t known in
        let at = first.least s.at s.inside (s.tail ∙ is) in
        rw (done.not_first some)
        (behind keys k (λ p. p.0 ≡ pos t) (get_or heads t 0) at.0 first at.1 (omega (arith, ints, at.2, s.below)))
  ]

  top_now : (u : ℕ) → u < length tops → (u ≡ t) ⊎ (u ≡ t → ⊥)
      → LeadsTo (now keys k) (λ p. p.0 ≡ pos u) (get_or tops u 0)
  top_now u lt (inl e) = rw e (top_here (cases_eq before 0))
  top_now u lt (inr apart) =
      rw (done.other_tops u apart) (still keys k (λ p. p.0 ≡ pos u) (get_or heads u 0)
      (old.at_head u (rw done.all_tops at lt))
      (λ e. apart (omega (arith, ints, sym e ∙ is))))

  -- the link of the new position is right
  last_leads : LeadsTo keys (IsAfter k) after
  last_leads = record {
    there = λ i e.
        let at = inside i e in
        let up = by_lt_z k.1 (key_at keys i).1 (λ l. l) (λ l. absurd (fresh_at k keys i fresh at.0
        (pair_from (key_at keys i) k at.1 (omega (arith, ints, l, stops i e))))) in
        (at.0, (at.1, up));
    least = λ i lt asked. least_from keys k before after stops sought i lt asked.0 (omega (arith, ints, asked.1));
  }
    where
      inside : (i : ℕ) → after ≡ suc i → (i < length keys) × ((key_at keys i).0 ≡ k.0)
      inside i e = elim sought [ inl s ↦ s.on.there i e | inr s ↦ (let at = s.on.there i e in (at.0, at.1.0 ∙ s.tail)) ]

  -- the link of the position before the new one is right
  link_before : (b : ℕ) → before ≡ suc b → b < length keys → (key_at keys b).0 ≡ k.0 → (key_at keys b).1 <ℤ k.1
      → LeadsTo (now keys k) (IsAfter (key_at keys b)) link
  link_before b is_b lt tail low =
      rw one (ahead keys k (IsAfter (key_at keys b)) (sym tail, low) (λ i l asked. by_lt_z (key_at keys i).1 k.1
      (λ less.
      let g = greatest_before keys k before after stops sought i l (asked.0 ∙ tail) less in
      let same : b ≡ g.0 = omega (arith, is_b, g.1) in
      absurd (omega (arith, ints, rw (← same) at g.5, asked.1)))
      (λ up. up)))

  -- the link of a position with a lesser head is right, whether it has changed or not
  link_low : (i : ℕ) → i < length keys → (key_at keys i).0 ≡ k.0 → (key_at keys i).1 <ℤ k.1
      → LeadsTo (now keys k) (IsAfter (key_at keys i)) (get_or links i 0)
  link_low i lt tail low =
      (let g = greatest_before keys k before after stops sought i lt tail low in
      by_position g.0 g.1 g.2 g.3 g.4 g.5 (cases_eq i g.0))
    where
      by_position : (b : ℕ) → before ≡ suc b → b < length keys → (key_at keys b).0 ≡ k.0 → (key_at keys b).1 <ℤ k.1
          → (key_at keys i).1 ≤ℤ (key_at keys b).1 → (i ≡ b) ⊎ (i ≡ b → ⊥)
          → LeadsTo (now keys k) (IsAfter (key_at keys i)) (get_or links i 0)
      by_position b is_b inside same_tail below upto (inl e) =
          rw (e, done.follows b is_b) (link_before b is_b inside same_tail below)
      by_position b is_b inside same_tail below upto (inr apart) =
          let on = old.at_next i lt in
          let less : (key_at keys i).1 <ℤ (key_at keys b).1 =
          by_lt_z (key_at keys i).1 (key_at keys b).1 (λ l. l)
          (λ l. absurd (apart (old.apart i b lt inside
          (pair_from (key_at keys i) (key_at keys b) (tail ∙ sym same_tail) (omega (arith, ints, l, upto)))))) in
          let at = on.least b inside (same_tail ∙ sym tail, less) in
          rw (done.other_links i (rw old.same lt) (λ e. apart (omega (arith, e, is_b))))
          (behind keys k (IsAfter (key_at keys i)) (get_or next i 0) at.0 on at.1 (omega (arith, ints, at.2, below)))

  -- the link of any other position is right
  link_other : (i : ℕ) → i < length keys → (IsAfter (key_at keys i) k → ⊥)
      → LeadsTo (now keys k) (IsAfter (key_at keys i)) (get_or links i 0)
  link_other i lt not =
      rw (done.other_links i (rw old.same lt) unless) (still keys k (IsAfter (key_at keys i)) (get_or next i 0)
      (old.at_next i lt) not)
    where
      unless : before ≡ suc i → ⊥
      unless e = elim sought [
        | inl s ↦ omega (arith, e, s.is)
        | inr s ↦
            let same : i ≡ s.at = omega (arith, e, s.is) in
            not (rw same (sym s.tail, s.below))
      ]

  link_old : (i : ℕ) → i < length keys → LeadsTo (now keys k) (IsAfter (key_at keys i)) (get_or links i 0)
  link_old i lt =
      by_lt_z (key_at keys i).0 k.0
      (λ l. link_other i lt (λ after_it. omega (arith, ints, after_it.0, l)))
      (λ up. by_lt_z k.0 (key_at keys i).0
      (λ l. link_other i lt (λ after_it. omega (arith, ints, after_it.0, l)))
      (λ down. by_lt_z (key_at keys i).1 k.1 (λ low. link_low i lt (omega (arith, ints, up, down)) low)
      (λ high. link_other i lt (λ after_it. omega (arith, ints, after_it.1, high)))))

  link_now : (i : ℕ) → i < length (now keys k) → (i < length keys) ⊎ (length keys ≤ i)
      → LeadsTo (now keys k) (IsAfter (key_at (now keys k) i)) (get_or links i 0)
  link_now i lt (inl l) = rw (key_kept keys k i l) (link_old i l)
  link_now i lt (inr l) =
      let at : i ≡ length keys = omega (arith, length_push keys k) in
      let value : get_or links i 0 ≡ after = rw (at, ← old.same) done.last in
      rw (key_new keys k i at, value)
      (still keys k (IsAfter k) after last_leads (λ self. omega (arith, ints, self.1)))

  tails_now : (i : ℕ) → i < length (now keys k) → (i < length keys) ⊎ (length keys ≤ i) → (u : ℕ) × (u < length tops)
      × ((key_at (now keys k) i).0 ≡ pos u)
  tails_now i lt (inl l) =
      let u = old.tails i l in
      (u.0, rw done.all_tops u.1, rw (key_kept keys k i l) u.2)
  tails_now i lt (inr l) = (t, rw done.all_tops known, rw (key_new keys k i (omega (arith, length_push keys k))) is)

  apart_now : (i j : ℕ) → i < length (now keys k) → j < length (now keys k)
      → key_at (now keys k) i ≡ key_at (now keys k) j → (i < length keys) ⊎ (length keys ≤ i)
      → (j < length keys) ⊎ (length keys ≤ j) → i ≡ j
  apart_now i j li lj e (inl a) (inl b) = old.apart i j a b (sym (key_kept keys k i a) ∙ e ∙ key_kept keys k j b)
  apart_now i j li lj e (inl a) (inr b) = absurd (fresh_at k keys i fresh a
      (sym (key_kept keys k i a) ∙ e ∙ key_new keys k j (omega (arith, length_push keys k))))
  apart_now i j li lj e (inr a) (inl b) = absurd (fresh_at k keys j fresh b
      (sym (key_kept keys k j b) ∙ sym e ∙ key_new keys k i (omega (arith, length_push keys k))))
  apart_now i j li lj e (inr a) (inr b) = omega (arith, length_push keys k)

  pub links_more : Links tops links (keys ++ k ∷ [])
  links_more = record {
    same = done.all_links ∙ ap (λ n. n + 1) old.same ∙ sym (length_push keys k);
    apart = λ i j li lj e. apart_now i j li lj e (cases_lt i (length keys)) (cases_lt j (length keys));
    tails = λ i lt. tails_now i lt (cases_lt i (length keys));
    at_head = λ u lt. top_now u lt (cases_eq u t);
    at_next = λ i lt. link_now i lt (cases_lt i (length keys));
  }

-- the position before the pair's position is one of a key
pub before_inside : (keys : List (ℤ × ℤ)) (pair : ℤ × ℤ) (before after : ℕ) → (before ≡ 0 → ⊥)
    → Sought keys pair before after → before - 1 < length keys
before_inside keys pair before after some (inl s) = absurd (some s.is)
before_inside keys pair before after some (inr s) = omega (arith, s.is, s.inside)

-- no entry has the pair of an earlier one
pub prefix_fresh : {X : Type 0} (es : List ((ℤ × ℤ) × X)) (i : ℕ) (d : (ℤ × ℤ) × X) → IsDistinct same_pair (keys_of es)
    → i < length es → list_any (same_pair (get_or es i d).0) (keys_of (take i es)) ≡ false
prefix_fresh {X} es i d apart inside = none_from_positions (get_or es i d).0 (keys_of (take i es)) (λ j lt e.
    let short : j < i = omega (arith, length-keys_of (take i es), length-take-le i es (omega arith)) in
    let all : i < length (keys_of es) = rw (length-keys_of es) inside in
    let same : key_at (keys_of es) j ≡ key_at (keys_of es) i =
    sym (get_or-take i (keys_of es) j (pos 0, pos 0) short)
    ∙ rw (take-map (λ (x : (ℤ × ℤ) × X). x.0) i es, key_of_position es i d all) e in
    let other = apart_from_distinct same_pair (keys_of es) j i (pos 0, pos 0) apart short all in
    false≢true (sym other ∙ rw (← same) (pair_self (key_at (keys_of es) j))))
