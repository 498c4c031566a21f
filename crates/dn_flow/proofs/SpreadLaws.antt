-- Laws of how shares are filled from a flow, and given to lines.
use Rattle.std.proofs.Common.{append_assoc, IsTrue, nat_eq, inl, inr, ◌≡◌, ℕ, ◌+◌, ◌<◌, ◌≤◌, zero, suc, ℤ, pos, ◌+ℤ◌, ◌≤ℤ◌, ◌<ℤ◌, List, [], ◌∷◌, ◌++◌, length, take, drop, map, Bool, false, cond, Some, slice_get, refl, sym, ap, ◌∙◌, subst, arith}
use Rattle.std.specs.Prelude.{set, get_or}
use Rattle.std.proofs.lemmas.Bool.{cases_Bool}
use Rattle.std.proofs.lemmas.Bool.Decides.{nat_tests}
use Rattle.std.proofs.lemmas.Int.{by_lt_z, ints}
use Rattle.std.proofs.lemmas.Option.{get_or_from_slice_get, slice_get_within}
use Rattle.std.specs.List.{AllByRecursion, IsDistinct, list_any, zip}
use Rattle.dn_arc_theory.specs.Canonical.{ArePairwise}
use Rattle.dn_arc_theory.proofs.PairLaws.{pair_self}
use Rattle.std.proofs.lemmas.List.{take_more_set, drop_all, get_or-set_same, get_or-set_other, length-append, length-map, map-append, take-append-drop}
use Rattle.std.specs.Map.{keys_of}
use Rattle.std.proofs.lemmas.Map.Entries.{length-keys_of}
use Rattle.std.proofs.lemmas.Map.Keys.{IsDistinct-head, IsDistinct-tail}
use Rattle.dn_arc_theory.specs.Pairs.{same_pair}
use Rattle.dn_arc_theory.specs.Splits.{total, AreShares}
use Rattle.dn_arc_theory.specs.declared.arc.CostArc.{CostArc}
use Rattle.dn_arc_lines.specs.declared.arc_line.ArcLine.{ArcLine}
use Rattle.dn_canon.specs.State.ListedArcs.{placed, listed_arcs}
use Rattle.pair_index.specs.State.Positions.{key_at}
use Rattle.dn_flow.specs.State.Spreads.{pair_of, units_at, IsInOrder, IsSpread}
use Rattle.dn_flow.specs.State.Givings.{lefts, AreNone, Fills, Gives, GivesLine, Takes}
use Rattle.dn_flow.specs.declared.share.PairShare.{PairShare}

-- a flow that fills all shares has a number for each arc
pub flow_length : {B Arc : Type 0} (lists : B
    → List Arc) (table : List ((ℤ × ℤ) × B)) (flow : List ℤ) (shares : List PairShare)
    → Fills lists table flow shares → length flow ≡ length (listed_arcs lists table)
flow_length lists [] flow shares h = rw h refl
flow_length lists (e ∷ table) flow [] h = absurd h
flow_length {Arc = Arc} lists (e ∷ table) flow (s ∷ shares) h =
    let n = length (lists e.1) in
    let rest = flow_length lists table (drop n flow) shares h.2 in
    let whole = ap length (take-append-drop n flow) in
    let parts = length-append (take n flow) (drop n flow) in
    let arcs = length-append (placed e.0 (lists e.1)) (listed_arcs lists table) in
    let few = length-map {B = (ℤ × ℤ) × Arc} (lists e.1) (λ a. (e.0, a)) in
    omega (arith, rest, whole, parts, arcs, few, h.0)

-- this holds of each line and its units
abbrev pub AllLines : (ArcLine → ℤ → Type 0) → List ArcLine → List ℤ → Type 0
AllLines Is (line ∷ lines) (u ∷ units) = Is line u × AllLines Is lines units
AllLines Is _ _ = Unit {0}

module _ (p : ℤ × ℤ) where
  -- the units of two lists, one behind the other
  pub units_append : (ps qs : List (ℤ × ℤ)) (us vs : List ℤ) → length us ≡ length ps
      → units_at p (ps ++ qs) (us ++ vs) ≡ units_at p ps us +ℤ units_at p qs vs
  units_append [] qs [] vs e = omega (arith, ints)
  units_append [] qs (u ∷ us) vs e = absurd (omega (arith, e))
  units_append (q ∷ ps) qs [] vs e = absurd (omega (arith, e))
  units_append (q ∷ ps) qs (u ∷ us) vs e =
      let rest = units_append ps qs us vs (omega (arith, e)) in omega (arith, ints, rest)

  -- the units of arcs that all have the pair q
  pub placed_units : {Arc : Type 0} (q : ℤ × ℤ) (xs : List Arc) (us : List ℤ) → length us ≡ length xs
      → units_at p (map (λ a. a.0) (placed q xs)) us ≡ cond (same_pair p q) (total us) (pos 0)
  placed_units q [] [] e = elim (cases_Bool (same_pair p q)) [ inl t ↦ rw t refl | inr t ↦ rw t refl ]
  placed_units q [] (u ∷ us) e = absurd (omega (arith, e))
  placed_units q (x ∷ xs) [] e = absurd (omega (arith, e))
  placed_units q (x ∷ xs) (u ∷ us) e =
      let rest = placed_units q xs us (omega (arith, e)) in
      elim (cases_Bool (same_pair p q)) [
        | inl t ↦ let rest' = rw t at rest in rw t (ap (λ z. u +ℤ z) rest')
        | inr t ↦ let rest' = rw t at rest in rw t (omega (arith, ints, rest'))
      ]

  -- the units of a share and those of the lines that come after it
  units_set : (keys : List (ℤ × ℤ)) (old : List PairShare) (i : ℕ) (share s : PairShare) → i < length keys
      → slice_get old i ≡ Some share
      → units_at p keys (lefts (set old i s)) +ℤ cond (same_pair p (key_at keys i)) share.left (pos 0)
      ≡ units_at p keys (lefts old) +ℤ cond (same_pair p (key_at keys i)) s.left (pos 0)
  units_set [] old i share s low is = absurd (omega (arith, low))
  units_set (k ∷ keys) [] zero share s low is = cc
  units_set (k ∷ keys) [] (suc i) share s low is = cc
  units_set (k ∷ keys) (o ∷ old) zero share s low is =
      let same : o ≡ share = cc in
      rw (← same) (omega (arith, ints))
  units_set (k ∷ keys) (o ∷ old) (suc i) share s low is =
      let rest = units_set keys old i share s (omega (arith, low)) is in omega (arith, ints, rest)

  -- where no share has units left, no pair has
  none_left : (keys : List (ℤ × ℤ)) (shares : List PairShare) → AreNone (take (length keys) shares)
      → units_at p keys (lefts shares) ≡ pos 0
  none_left [] shares h = refl
  none_left (k ∷ keys) [] h = refl
  none_left (k ∷ keys) (s ∷ shares) h =
      let rest = none_left keys shares h.1 in
      elim (cases_Bool (same_pair p k)) [
        | inl t ↦ rw (t, h.0, rest) refl
        | inr t ↦ rw (t, rest) refl
      ]

  module _ {B Arc : Type 0} (lists : B → List Arc) where
    -- the shares have the units of the canonical arcs
    filled : (table : List ((ℤ × ℤ) × B)) (flow : List ℤ) (shares : List PairShare) → Fills lists table flow shares
        → units_at p (keys_of table) (lefts shares) ≡ units_at p (map (λ a. a.0) (listed_arcs lists table)) flow
    filled [] flow shares h = refl
    filled (e ∷ table) flow [] h = absurd h
    filled (e ∷ table) flow (s ∷ shares) h =
        let n = length (lists e.1) in
        let arcs = placed e.0 (lists e.1) in
        let here = placed_units e.0 (lists e.1) (take n flow) h.0 in
        let rest = filled table (drop n flow) shares h.2 in
        let even = h.0 ∙ sym (length-map arcs (λ a. a.0) ∙ length-map {B = (ℤ × ℤ) × Arc} (lists e.1) (λ a.
        (e.0, a))) in
        let both = units_append (map (λ a. a.0) arcs) (map (λ a. a.0) (listed_arcs lists table)) (take n flow)
        (drop n flow) even in
        let all = rw (take-append-drop n flow, ← map-append (λ (a : (ℤ × ℤ) × Arc). a.0) arcs (listed_arcs lists table))
        at both in
        elim (cases_Bool (same_pair p e.0)) [
          | inl t ↦ rw (t, h.1) (let here' = rw t at here in omega (arith, ints, here', rest, all))
          | inr t ↦ rw t (let here' = rw t at here in omega (arith, ints, here', rest, all))
        ]

  module _ (bounds : ArcLine → CostArc) (keys : List (ℤ × ℤ)) where
    -- a line takes its units of those that its pair has left
    line_given : (old : List PairShare) (line : ArcLine) (u : ℤ) (new : List PairShare)
        → GivesLine bounds keys old line u new
        → cond (same_pair p (pair_of line)) u (pos 0) +ℤ units_at p keys (lefts new) ≡ units_at p keys (lefts old)
    line_given old line u new (inl (i, share, s, low, key, is, takes, after)) =
        let moved = units_set keys old i share s low is in
        let moved' = rw (key, ← after) at moved in
        elim (cases_Bool (same_pair p (pair_of line))) [
          | inl t ↦ rw t (let m = rw t at moved' in omega (arith, ints, m, takes.left))
          | inr t ↦ rw t (let m = rw t at moved' in omega (arith, ints, m))
        ]
    line_given old line u new (inr (none, low, cap, is, same)) =
        rw (is, same) (elim (cases_Bool (same_pair p (pair_of line))) [
          | inl t ↦ rw t (omega (arith, ints))
          | inr t ↦ rw t (omega (arith, ints))
        ])

    -- all lines take their units of those that their pairs have left
    all_given : (old : List PairShare) (lines : List ArcLine) (units : List ℤ) (new : List PairShare)
        → Gives bounds keys old lines units new
        → units_at p (map pair_of lines) units +ℤ units_at p keys (lefts new) ≡ units_at p keys (lefts old)
    all_given old [] units new h = rw h.1 (omega (arith, ints))
    all_given old (line ∷ lines) units new (u, rest, next, is, one, more) =
        let here = line_given old line u next one in
        let others = all_given next lines rest new more in
        rw is (omega (arith, ints, here, others))

-- where no pair is left, nothing fills the shares that are left
pub nothing_to_fill : {B Arc : Type 0} (lists : B → List Arc) (table : List ((ℤ × ℤ) × B)) (flow : List ℤ)
    (shares : List PairShare) → table ≡ [] → IsTrue (nat_eq (length flow) 0) → Fills lists table flow shares
nothing_to_fill lists table [] shares is h = rw is refl
nothing_to_fill lists table (u ∷ flow) shares is h = absurd (grind (arith, nat_tests))

-- where no line is left, nothing is given
pub nothing_to_give : (bounds : ArcLine
    → CostArc) (keys : List (ℤ × ℤ)) (shares : List PairShare) (lines : List ArcLine)
    (i : ℕ) → length lines ≤ i → Gives bounds keys shares (drop i lines) [] shares
nothing_to_give bounds keys shares lines i few = rw (drop_all i lines few) (refl, refl)

-- what holds of each line and its units
lines_weaker : (P Q : ArcLine → ℤ → Type 0) → ((line : ArcLine) (u : ℤ) → P line u → Q line u) → (lines : List ArcLine)
    (units : List ℤ) → AllLines P lines units → AllLines Q lines units
lines_weaker P Q f [] units h = tt
lines_weaker P Q f (line ∷ lines) [] h = tt
lines_weaker P Q f (line ∷ lines) (u ∷ units) h = (f line u h.0, lines_weaker P Q f lines units h.1)

lines_all : (Q : ArcLine → ℤ → Type 0) → ((line : ArcLine) (u : ℤ) → Q line u) → (lines : List ArcLine) (units : List ℤ)
    → AllLines Q lines units
lines_all Q f [] units = tt
lines_all Q f (line ∷ lines) [] = tt
lines_all Q f (line ∷ lines) (u ∷ units) = (f line u, lines_all Q f lines units)

zip_each : (P : ArcLine × ℤ → Type 0) (lines : List ArcLine) (units : List ℤ)
    → AllLines (λ line u. P (line, u)) lines units → AllByRecursion P (zip lines units)
zip_each P [] units h = tt
zip_each P (line ∷ lines) [] h = tt
zip_each P (line ∷ lines) (u ∷ units) h = (h.0, zip_each P lines units h.1)

-- a pair that differs from each of these is none of them
unlike : (k : ℤ × ℤ) (ks : List (ℤ × ℤ)) (j : ℕ) → AllByRecursion (λ y. same_pair k y ≡ false) ks → j < length ks
    → k ≡ key_at ks j → ⊥
unlike k [] j h low e = absurd (omega (arith, low))
unlike k (x ∷ ks) zero h low e = let clash = rw (← e) at h.0 in cc (clash, pair_self k)
unlike k (x ∷ ks) (suc j) h low e = unlike k ks j h.1 (omega (arith, low)) e

pub unlisted : (k : ℤ × ℤ) (ks : List (ℤ × ℤ)) (j : ℕ) → list_any (same_pair k) ks ≡ false → j < length ks
    → k ≡ key_at ks j → ⊥
unlisted k [] j h low e = absurd (omega (arith, low))
unlisted k (x ∷ ks) zero h low e = let clash = rw (← e, pair_self k) at h in cc
unlisted k (x ∷ ks) (suc j) h low e = elim (cases_Bool (same_pair k x)) [
  | inl t ↦ let clash = rw t at h in cc
  | inr t ↦ unlisted k ks j (rw t at h) (omega (arith, low)) e
]

-- a pair has one position
pub one_position : (ks : List (ℤ × ℤ)) → IsDistinct same_pair ks → (i j : ℕ) → i < length ks → j < length ks
    → key_at ks i ≡ key_at ks j → i ≡ j
one_position [] d i j low l e = absurd (omega (arith, low))
one_position (k ∷ ks) d zero zero low l e = refl
one_position (k ∷ ks) d zero (suc j) low l e = absurd (unlike k ks j (IsDistinct-head same_pair k ks d) (omega
    (arith, l)) e)
one_position (k ∷ ks) d (suc i) zero low l e = absurd (unlike k ks i (IsDistinct-head same_pair k ks d) (omega
    (arith, low)) (sym e))
one_position (k ∷ ks) d (suc i) (suc j) low l e =
    ap suc (one_position ks (IsDistinct-tail same_pair k ks d) i j (omega (arith, low)) (omega (arith, l)) e)

-- what a line gets that comes when the share is this one
record IsRest (s : PairShare) (line : CostArc) (u : ℤ) : Type 0 where
  pub cheap : line.cost <ℤ s.cost → u ≡ line.cap
  pub dear : s.cost <ℤ line.cost → u ≡ line.low
  pub none : line.cost ≡ s.cost → s.rest ≤ℤ pos 0 → u ≡ line.low

abbrev share_at : List PairShare → ℕ → PairShare
share_at shares i = get_or shares i (record { cost = pos 0; rest = pos 0; left = pos 0 })

-- what a line gets after another one took its units is also what it may get before
rest_before : (s s' : PairShare) (taker : CostArc) (v : ℤ) → Takes s taker v s' → (line : CostArc) (u : ℤ)
    → IsRest s' line u → IsRest s line u
rest_before s s' taker v t line u r = record {
  cheap = λ lt. r.cheap (omega (arith, ints, lt, t.cost));
  dear = λ lt. r.dear (omega (arith, ints, lt, t.cost));
  none = λ e done. r.none (e ∙ sym t.cost) (t.part.over done);
}

module _ (bounds : ArcLine → CostArc) (keys : List (ℤ × ℤ)) (apart : IsDistinct same_pair keys) where
  rest_line : (i : ℕ) → i < length keys → (old : List PairShare) (taker : ArcLine) (v : ℤ) (next : List PairShare)
      → GivesLine bounds keys old taker v next → (line : CostArc) (u : ℤ) → IsRest (share_at next i) line u
      → IsRest (share_at old i) line u
  rest_line i low old taker v next (inl (j, share, s, within, key, got, takes, after)) line u r =
      let long = slice_get_within old j share got in
      elim (cases_Bool (nat_eq i j)) [
        | inl t ↦
            let same : i ≡ j = grind (arith, nat_tests) in
            let was = get_or_from_slice_get old j share _ got in
            let is = get_or-set_same old j s _ long in
            subst (λ k. IsRest (share_at old k) line u) (sym same)
            (subst (λ x. IsRest x line u) (sym was)
            (rest_before share s (bounds taker) v takes line u
            (subst (λ x. IsRest x line u) is (subst (λ k. IsRest (share_at (set old j s) k) line u) same
            (subst (λ l. IsRest (share_at l i) line u) after r)))))
        | inr t ↦
            let other = get_or-set_other old j i s _ (λ e. grind (arith, nat_tests)) in
            subst (λ x. IsRest x line u) other (subst (λ l. IsRest (share_at l i) line u) after r)
      ]
  rest_line i low old taker v next (inr (none, least, cap, is, same)) line u r =
      subst (λ l. IsRest (share_at l i) line u) same r

  -- the lines of the pair at i get what the share there leaves them
  later : (i : ℕ) → i < length keys
      → (old : List PairShare) (lines : List ArcLine) (units : List ℤ) (new : List PairShare)
      → Gives bounds keys old lines units new
      → AllLines (λ line u. pair_of line ≡ key_at keys i → IsRest (share_at old i) (bounds line) u) lines units
  later i low old [] units new h = tt
  later i low old (line ∷ lines) units new (u, rest, next, is, one, more) =
      let here = here_rest old line u next one in
      let others = lines_weaker _ _ (λ l v r e. rest_line i low old line u next one (bounds l) v (r e)) lines rest
      (later i low next lines rest new more) in
      subst (AllLines (λ l v. pair_of l ≡ key_at keys i → IsRest (share_at old i) (bounds l) v) (line ∷ lines)) (sym is)
      (here, others)
    where
      here_rest : (old : List PairShare) (line : ArcLine) (u : ℤ) (next : List PairShare)
          → GivesLine bounds keys old line u next
          → pair_of line ≡ key_at keys i → IsRest (share_at old i) (bounds line) u
      here_rest old line u next (inl (j, share, s, within, key, got, takes, after)) e =
          let same = one_position keys apart j i within low (key ∙ e) in
          let was = get_or_from_slice_get old j share _ got in
          subst (λ k. IsRest (share_at old k) (bounds line) u) same
          (subst (λ x. IsRest x (bounds line) u) (sym was)
          (record { cheap = takes.part.cheap; dear = takes.part.dear; none = takes.part.none }))
      here_rest old line u next (inr (none, least, cap, is, same)) e =
          absurd (unlisted (pair_of line) keys i none low e)

  -- a line that took its units, and one that gets what it leaves, are in order
  ordered : (share s : PairShare) (first : ArcLine) (u : ℤ) → Takes share (bounds first) u s → (next : ArcLine) (v : ℤ)
      → (pair_of first ≡ pair_of next → IsRest s (bounds next) v) → IsInOrder bounds (first, u) (next, v)
  ordered share s first u t next v h = record {
    before = λ same le. by_lt_z (bounds first).cost share.cost (λ lt. inl (t.part.cheap lt))
        (λ ge. by_lt_z share.cost (bounds first).cost
        (λ gt. inr ((h same).dear (omega (arith, ints, gt, le, t.cost))))
        (λ eq. let is : (bounds first).cost ≡ share.cost = omega (arith, ints, ge, eq) in
        elim (t.part.last is) [
          | inl full ↦ inl full
          | inr done ↦ inr (by_lt_z s.cost (bounds next).cost (h same).dear
              (λ few. (h same).none (omega (arith, ints, few, le, is, t.cost)) done))
        ]));
    behind = λ same lt. by_lt_z share.cost (bounds first).cost (λ gt. inr (t.part.dear gt))
        (λ le. inl ((h same).cheap (omega (arith, ints, le, lt, t.cost))));
  }

  -- the cheapest lines of a pair have its units, and of equal ones the first
  in_order : (old : List PairShare) (lines : List ArcLine) (units : List ℤ) (new : List PairShare)
      → Gives bounds keys old lines units new → ArePairwise (IsInOrder bounds) (zip lines units)
  in_order old [] units new h = tt
  in_order old (line ∷ lines) units new (u, rest, next, is, one, more) =
      subst (λ us. ArePairwise (IsInOrder bounds) (zip (line ∷ lines) us)) (sym is)
      (zip_each (IsInOrder bounds (line, u)) lines rest (pairs one), in_order next lines rest new more)
    where
      pairs : GivesLine bounds keys old line u next → AllLines (λ l v. IsInOrder bounds (line, u) (l, v)) lines rest
      pairs (inl (j, share, s, within, key, got, takes, after)) =
          let long = slice_get_within old j share got in
          let now : share_at next j ≡ s = ap (λ l. share_at l j) after ∙ get_or-set_same old j s _ long in
          lines_weaker _ _ (λ l v r. ordered share s line u takes l v
          (λ same. subst (λ x. IsRest x (bounds l) v) now (r (sym same ∙ sym key)))) lines rest
          (later j within next lines rest new more)
      pairs (inr (none, low, high, nothing, same)) =
          lines_all (λ l v. IsInOrder bounds (line, u) (l, v)) (λ l v. record {
            before = λ e le. inl (nothing ∙ sym high);
            behind = λ e lt. inr (nothing ∙ sym low);
          }) lines rest

  -- each line has units within its bounds
  within_bounds : (old : List PairShare) (lines : List ArcLine) (units : List ℤ) (new : List PairShare)
      → Gives bounds keys old lines units new → AreShares (map bounds lines) units
  within_bounds old [] units new h = rw h.0 tt
  within_bounds old (line ∷ lines) units new (u, rest, next, is, one, more) =
      let here = has_bounds one in
      subst (AreShares (map bounds (line ∷ lines))) (sym is)
      (here.0, here.1, within_bounds next lines rest new more)
    where
      has_bounds : GivesLine bounds keys old line u next → ((bounds line).low ≤ℤ u) × (u ≤ℤ (bounds line).cap)
      has_bounds (inl (j, share, s, within, key, got, takes, after)) = (takes.part.low, takes.part.high)
      has_bounds (inr (none, low, high, nothing, same)) = (
        omega (arith, ints, nothing, low),
        omega
            (arith, ints, nothing, high),
      )

-- shares that are filled from a flow, and given to lines until none is left, spread the flow
pub spread_is : {B Arc : Type 0} (bounds : ArcLine → CostArc) (lists : B → List Arc) (table : List ((ℤ × ℤ) × B))
    (flow : List ℤ) (lines : List ArcLine) (units : List ℤ) (filled_shares given_shares : List PairShare)
    → IsDistinct same_pair (keys_of table) → Fills lists table flow filled_shares
    → Gives bounds (keys_of table) filled_shares lines units given_shares
    → AreNone (take (length table) given_shares) → IsSpread bounds lists table flow lines units
spread_is bounds lists table flow lines units before after apart fills gives none =
    let keys = keys_of table in
    let done = subst (λ n. AreNone (take n after)) (sym (length-keys_of table)) none in
    record {
      each_arc = flow_length lists table flow before fills;
      within = within_bounds bounds keys apart before lines units after gives;
      same = λ p.
          let sums = all_given p bounds keys before lines units after gives in
          let left = none_left p keys after done in
          let all = filled p lists table flow before fills in
          omega (arith, ints, sums, left, all);
      cheapest = in_order bounds keys apart before lines units after gives;
    }

-- one more element is set, and what follows
pub more_set : {X : Type 0} (xs : List X) (i : ℕ) (y : X) (ys : List X) → i < length xs
    → take (i + 1) (set xs i y) ++ ys ≡ take i xs ++ y ∷ ys
more_set xs i y ys low = ap (λ l. l ++ ys) (take_more_set xs i y low) ∙ append_assoc (take i xs) (y ∷ []) ys

pub not_both : (b : Bool) → b ≡ false → IsTrue b → ⊥
not_both b f t = cc
