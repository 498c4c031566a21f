-- Where some units of lines are a flow, the lines take it all.
use Rattle.std.proofs.Common.{inl, inr, ◌≡◌, ℕ, zero, suc, ◌<◌, ◌≤◌, ℤ, pos, ◌+ℤ◌, ◌≤ℤ◌, List, [], ◌∷◌, length, take, drop, map, true, false, cond, nat_eq, None, length-take-le, refl, sym, ap, ◌∙◌, subst, arith}
use Rattle.std.specs.Prelude.{set}
use Rattle.std.specs.List.{AllByRecursion, IsDistinct, list_any}
use Rattle.std.specs.Map.{keys_of, lookup}
use Rattle.std.proofs.lemmas.Bool.{cases_Bool}
use Rattle.std.proofs.lemmas.Bool.Decides.{nat_tests}
use Rattle.std.proofs.lemmas.Int.{ints}
use Rattle.std.proofs.lemmas.List.{get_or-set_same, get_or-set_other, length-append, length-drop, length-map, map-append, take-append-drop}
use Rattle.std.proofs.lemmas.Map.Keys.{IsDistinct-head, IsDistinct-tail}
use Rattle.dn_arc_theory.specs.Canonical.{IsCostArc}
use Rattle.dn_arc_theory.specs.Kinds.{ArcKind}
use Rattle.dn_arc_theory.specs.Pairs.{bundle, same_pair}
use Rattle.dn_arc_theory.specs.Splits.{AreShares, total}
use Rattle.dn_arc_theory.specs.declared.arc.CostArc.{CostArc}
use Rattle.dn_arc_theory.proofs.PairLaws.{pair_is, pair_self}
use Rattle.dn_arc_lines.specs.declared.arc_line.ArcLine.{ArcLine}
use Rattle.dn_canon.specs.State.ListedArcs.{placed, listed_arcs}
use Rattle.dn_table.specs.State.Tables.{listed_at}
use Rattle.dn_table.proofs.PairLaws.{other_pair}
use Rattle.pair_index.specs.State.Positions.{key_at}
use Rattle.dn_flow.specs.State.Spreads.{CanSpread, arcs_by, pair_of, units_at}
use Rattle.dn_flow.specs.State.Givings.{AreBalanced, AreFilled, AreNone, Fits, IsBalanced, share_at}
use Rattle.dn_flow.specs.declared.share.PairShare.{PairShare}
use Rattle.dn_flow.proofs.SpreadLaws.{one_position, placed_units, units_append, unlisted}

-- what holds of each arc of a list holds of those of a pair
bundle_each : {Arc : Type 0} (P : Arc → Type 0) (arc : ArcLine → Arc) (p : ℤ × ℤ) (lines : List ArcLine)
    → AllByRecursion (λ line. P (arc line)) lines → AllByRecursion P (bundle p (arcs_by arc lines))
bundle_each P arc p [] h = tt
bundle_each P arc p (line ∷ lines) h = elim (cases_Bool (same_pair p (pair_of line))) [
  | inl t ↦ rw t (h.0, bundle_each P arc p lines h.1)
  | inr t ↦ rw t (bundle_each P arc p lines h.1)
]

bundle_map : {Arc : Type 0} (carried : Arc → CostArc) (arc : ArcLine → Arc) (p : ℤ × ℤ) (lines : List ArcLine)
    → map carried (bundle p (arcs_by arc lines)) ≡ bundle p (arcs_by (λ line. carried (arc line)) lines)
bundle_map carried arc p [] = refl
bundle_map carried arc p (line ∷ lines) = elim (cases_Bool (same_pair p (pair_of line))) [
  | inl t ↦ rw t (ap (λ l. carried (arc line) ∷ l) (bundle_map carried arc p lines))
  | inr t ↦ rw t (bundle_map carried arc p lines)
]

module _ (bounds : ArcLine → CostArc) (keys : List (ℤ × ℤ)) (apart : IsDistinct same_pair keys) where
  -- the line of another pair is passed over
  other_line : (i j : ℕ) → i < length keys → j < length keys → (nat_eq i j ≡ false) → (line : ArcLine)
      → key_at keys j ≡ pair_of line → same_pair (key_at keys i) (pair_of line) ≡ false
  other_line i j low l differ line key = elim (cases_Bool (same_pair (key_at keys i) (pair_of line))) [
    | inl t ↦
        let same = one_position keys apart i j low l (pair_is (key_at keys i) (pair_of line) t ∙ sym key) in
        absurd (grind (arith, nat_tests))
    | inr t ↦ t
  ]

  -- a line of a pair at j takes its part, and the shares have what the others take
  pub line_taken : (shares : List PairShare) (line : ArcLine) (lines : List ArcLine) (j : ℕ) (s : PairShare)
      → AreBalanced bounds keys shares (line ∷ lines) → j < length keys → j < length shares
      → key_at keys j ≡ pair_of line → IsBalanced s (bundle (key_at keys j) (arcs_by bounds lines))
      → AreBalanced bounds keys (set shares j s) lines
  line_taken shares line lines j s b low long key now = record {
    each = b.each.1;
    shares_are = λ i l. elim (cases_Bool (nat_eq i j)) [
      | inl t ↦
          let same : j ≡ i = grind (arith, nat_tests) in
          subst (λ k. IsBalanced (share_at (set shares j s) k) (bundle (key_at keys k) (arcs_by bounds lines))) same
          (subst (λ x. IsBalanced x (bundle (key_at keys j) (arcs_by bounds lines)))
          (sym (get_or-set_same shares j s _ long)) now)
      | inr t ↦
          let other = other_line i j l low t line key in
          let was = rw other at (b.shares_are i l) in
          subst (λ x. IsBalanced x (bundle (key_at keys i) (arcs_by bounds lines)))
          (sym (get_or-set_other shares j i s _ (λ e. grind (arith, nat_tests)))) was
    ];
    others = b.others.1;
  }

  -- what the share of a line's pair has
  pub line_share : (shares : List PairShare) (line : ArcLine) (lines : List ArcLine) (j : ℕ)
      → AreBalanced bounds keys shares (line ∷ lines) → j < length keys → key_at keys j ≡ pair_of line
      → IsBalanced (share_at shares j) (bounds line ∷ bundle (key_at keys j) (arcs_by bounds lines))
  line_share shares line lines j b low key =
      let same : same_pair (key_at keys j) (pair_of line) ≡ true = rw key (pair_self (pair_of line)) in
      rw same at (b.shares_are j low)

  pub lines_each : (shares : List PairShare) (line : ArcLine) (lines : List ArcLine) (p : ℤ × ℤ)
      → AreBalanced bounds keys shares (line ∷ lines) → AllByRecursion IsCostArc (bundle p (arcs_by bounds lines))
  lines_each shares line lines p b = bundle_each IsCostArc bounds p lines b.each.1

  -- a line of a pair without a share takes nothing
  pub line_passed : (shares : List PairShare) (line : ArcLine) (lines : List ArcLine)
      → AreBalanced bounds keys shares (line ∷ lines) → list_any (same_pair (pair_of line)) keys ≡ false
      → AreBalanced bounds keys shares lines
  line_passed shares line lines b none = record {
    each = b.each.1;
    shares_are = λ i low. elim (cases_Bool (same_pair (key_at keys i) (pair_of line))) [
      | inl t ↦ absurd (unlisted (pair_of line) keys i none low (sym (pair_is (key_at keys i) (pair_of line) t)))
      | inr t ↦ rw t at (b.shares_are i low)
    ];
    others = b.others.1;
  }

-- where no line is left, no share has units
pub none_after : (bounds : ArcLine → CostArc) (keys : List (ℤ × ℤ)) (shares : List PairShare)
    → length keys ≤ length shares → AreBalanced bounds keys shares [] → AreNone (take (length keys) shares)
none_after bounds keys shares few b = go (length keys) shares few (λ i low. b.shares_are i low)
  where
    go : (n : ℕ) (shares : List PairShare) → n ≤ length shares
        → ((i : ℕ) → i < n → IsBalanced (share_at shares i) []) → AreNone (take n shares)
    go zero shares few h = tt
    go (suc n) [] few h = absurd (omega (arith, few))
    go (suc n) (s ∷ shares) few h =
        let b = h zero (omega arith) in (
          omega (arith, ints, b.left, b.some, b.fits),
          go n shares (omega (arith, few)) (λ i low. h (suc i) (omega (arith, low))),
        )

module _ {B Arc : Type 0} (kind : ArcKind Arc) (arc : ArcLine → Arc) (carried : Arc → CostArc)
    (lists meant : B → List Arc) where
  abbrev bounds : ArcLine → CostArc
  bounds line = carried (arc line)

  -- shares that are filled have what the lines take
  filled_at : (table : List ((ℤ × ℤ) × B)) (shares : List PairShare) (lines : List ArcLine)
      → AreFilled carried table shares (arcs_by arc lines) → (i : ℕ) → i < length (keys_of table)
      → IsBalanced (share_at shares i) (bundle (key_at (keys_of table) i) (arcs_by bounds lines))
  filled_at [] shares lines h i low = absurd (omega (arith, low))
  filled_at (e ∷ table) [] lines h i low = absurd h
  filled_at (e ∷ table) (s ∷ shares) lines h zero low = subst (IsBalanced s) (bundle_map carried arc e.0 lines) h.0
  filled_at (e ∷ table) (s ∷ shares) lines h (suc i) low = filled_at table shares lines h.1 i (omega (arith, low))

  -- a pair that is not in a table has no bundle
  not_there : (p : ℤ × ℤ) (table : List ((ℤ × ℤ) × B)) → list_any (same_pair p) (keys_of table) ≡ false
      → lookup (same_pair p) table ≡ None
  not_there p [] h = refl
  not_there p (e ∷ table) h = elim (cases_Bool (same_pair p e.0)) [
    | inl t ↦ let clash = rw t at h in cc
    | inr t ↦ rw t (not_there p table (rw t at h))
  ]

  in_bundle : (P : Arc → Type 0) (p : ℤ × ℤ) (lines : List ArcLine) → AllByRecursion P (bundle p (arcs_by arc lines))
      → AllByRecursion (λ line. p ≡ pair_of line → P (arc line)) lines
  in_bundle P p [] h = tt
  in_bundle P p (line ∷ lines) h = elim (cases_Bool (same_pair p (pair_of line))) [
    | inl t ↦ let h' = rw t at h in ((λ e. h'.0), in_bundle P p lines h'.1)
    | inr t ↦ (
      (λ e. let clash = subst (λ q. same_pair p q ≡ false) (sym e) t in cc (clash, pair_self p)),
      in_bundle P p lines (rw t at h),
    )
  ]

  abbrev HasNone : Arc → Type 0
  HasNone a = ((carried a).low ≡ pos 0) × ((carried a).cap ≡ pos 0)

  -- what holds for each pair of the lines with that pair holds of each line for its own
  each_own : (Q : ℤ × ℤ → ArcLine → Type 0) (lines : List ArcLine)
      → ((p : ℤ × ℤ) → AllByRecursion (λ line. p ≡ pair_of line → Q p line) lines)
      → AllByRecursion (λ line. Q (pair_of line) line) lines
  each_own Q [] h = tt
  each_own Q (line ∷ lines) h = ((h (pair_of line)).0 refl, each_own Q lines (λ p. (h p).1))

  weaker : (P Q : ArcLine → Type 0) → ((line : ArcLine) → P line → Q line) → (lines : List ArcLine)
      → AllByRecursion P lines → AllByRecursion Q lines
  weaker P Q f [] h = tt
  weaker P Q f (line ∷ lines) h = (f line h.0, weaker P Q f lines h.1)

  pub begun : ((a : Arc) → kind.IsArc a → IsCostArc (carried a))
      → ((arcs : List Arc) → AllByRecursion kind.IsArc arcs → kind.Same arcs [] → AllByRecursion HasNone arcs)
      → (table : List ((ℤ × ℤ) × B)) (shares : List PairShare) (flow : List ℤ) (lines : List ArcLine)
      → CanSpread kind arc carried lists meant table flow lines → AreFilled carried table shares (arcs_by arc lines)
      → AreBalanced bounds (keys_of table) shares lines
  begun carries nothing table shares flow lines can filled = record {
    each = weaker _ _ (λ line a. carries (arc line) a) lines can.each;
    shares_are = filled_at table shares lines filled;
    others = each_own (λ p line. list_any (same_pair p) (keys_of table) ≡ false → HasNone (arc line)) lines (λ p.
        elim (cases_Bool (list_any (same_pair p) (keys_of table))) [
          | inl t ↦ weaker (λ line. Unit {0}) _ (λ line u e none. cc (t, none)) lines (all_units lines)
          | inr t ↦
              let absent = not_there p table t in
              let same = rw absent at (can.meaning p) in
              let each = bundle_each kind.IsArc arc p lines can.each in
              weaker _ _ (λ line h e none. h e) lines (in_bundle HasNone p lines (nothing _ each same))
        ]);
  }
    where
      all_units : (lines : List ArcLine) → AllByRecursion (λ line. Unit {0}) lines
      all_units [] = tt
      all_units (line ∷ lines) = (tt, all_units lines)

  -- a flow in two parts: that on the arcs of the first pair, and that on the others
  record IsParted (p : ℤ × ℤ) (e : (ℤ × ℤ) × B) (table : List ((ℤ × ℤ) × B)) (flow : List ℤ) : Type 0 where
    pub first : length (take (length (lists e.1)) flow) ≡ length (lists e.1)
    pub others : length (drop (length (lists e.1)) flow) ≡ length (listed_arcs lists table)
    pub sum : units_at p (map (λ a. a.0) (listed_arcs lists (e ∷ table))) flow
        ≡ cond (same_pair p e.0) (total (take (length (lists e.1)) flow)) (pos 0)
        +ℤ units_at p (map (λ a. a.0) (listed_arcs lists table)) (drop (length (lists e.1)) flow)

  parted : (p : ℤ × ℤ) (e : (ℤ × ℤ) × B) (table : List ((ℤ × ℤ) × B)) (flow : List ℤ)
      → length flow ≡ length (listed_arcs lists (e ∷ table)) → IsParted p e table flow
  parted p e table flow long =
      let n = length (lists e.1) in
      let arcs = placed e.0 (lists e.1) in
      let size = length-map {B = (ℤ × ℤ) × Arc} (lists e.1) (λ a. (e.0, a)) in
      let both = length-append arcs (listed_arcs lists table) in
      let some : n ≤ length flow = omega (arith, long, both, size) in
      let first = length-take-le n flow some in
      let keys = length-map arcs (λ a. a.0) in
      let even : length (take n flow) ≡ length (map (λ (a : (ℤ × ℤ) × Arc). a.0) arcs) =
      omega (arith, first, size, keys) in
      let sum = units_append p (map (λ a. a.0) arcs) (map (λ a. a.0) (listed_arcs lists table)) (take n flow)
      (drop n flow) even in
      let all = rw (take-append-drop n flow, ← map-append (λ (a : (ℤ × ℤ) × Arc). a.0) arcs (listed_arcs lists table))
      at sum in
      let here = placed_units p e.0 (lists e.1) (take n flow) first in
      record {
        first = first;
        others = omega (arith, length-drop n flow, long, both, size);
        sum = all ∙ ap (λ z. z +ℤ units_at p (map (λ a. a.0) (listed_arcs lists table)) (drop n flow)) here;
      }

  -- the units of a pair that is not in a table
  none_units : (p : ℤ × ℤ) (table : List ((ℤ × ℤ) × B)) (flow : List ℤ)
      → AllByRecursion (λ q. same_pair p q ≡ false) (keys_of table)
      → length flow ≡ length (listed_arcs lists table)
      → units_at p (map (λ a. a.0) (listed_arcs lists table)) flow ≡ pos 0
  none_units p [] flow h e = refl
  none_units p (e ∷ table) flow h long =
      let s = parted p e table flow long in
      let sum = rw h.0 at s.sum in
      let rest = none_units p table (drop (length (lists e.1)) flow) h.1 s.others in
      omega (arith, ints, sum, rest)

  -- the units of the lines of a pair, in the order of the text
  units_of : (p : ℤ × ℤ) (lines : List ArcLine) (units : List ℤ) → AreShares (map bounds lines) units
      → (xs : List ℤ) × AreShares (map carried (bundle p (arcs_by arc lines))) xs
      × (total xs ≡ units_at p (map pair_of lines) units)
  units_of p [] [] h = ([], tt, refl)
  units_of p [] (u ∷ units) h = absurd h
  units_of p (line ∷ lines) [] h = absurd h
  units_of p (line ∷ lines) (u ∷ units) h =
      let r = units_of p lines units h.2 in
      elim (cases_Bool (same_pair p (pair_of line))) [
        | inl t ↦ rw t (u ∷ r.0, (h.0, h.1, r.1), ap (λ z. u +ℤ z) r.2)
        | inr t ↦ rw t (r.0, r.1, omega (arith, ints, r.2))
      ]

  each_taken : (n : ℕ) (flow : List ℤ) → AllByRecursion (λ u. pos 0 ≤ℤ u) flow
      → AllByRecursion (λ u. pos 0 ≤ℤ u) (take n flow) × AllByRecursion (λ u. pos 0 ≤ℤ u) (drop n flow)
  each_taken zero flow h = (tt, h)
  each_taken (suc n) [] h = (tt, tt)
  each_taken (suc n) (u ∷ flow) h = let r = each_taken n flow h.1 in ((h.0, r.0), r.1)

  module _ (whole : List ((ℤ × ℤ) × B)) (all : List ℤ) (lines : List ArcLine)
      (can : CanSpread kind arc carried lists meant whole all lines) where
    -- what is known of a pair of a part of the table
    record IsKnown (table : List ((ℤ × ℤ) × B)) (flow : List ℤ) (p : ℤ × ℤ) : Type 0 where
      pub same : units_at p (map (λ a. a.0) (listed_arcs lists table)) flow
          ≡ units_at p (map (λ a. a.0) (listed_arcs lists whole)) all
      pub meaning : listed_at meant table p ≡ listed_at meant whole p

    known_rest : (e : (ℤ × ℤ) × B) (table : List ((ℤ × ℤ) × B)) (flow : List ℤ)
        → length flow ≡ length (listed_arcs lists (e ∷ table)) → (qs : List (ℤ × ℤ))
        → AllByRecursion (λ q. same_pair e.0 q ≡ false) qs → AllByRecursion (IsKnown (e ∷ table) flow) qs
        → AllByRecursion (IsKnown table (drop (length (lists e.1)) flow)) qs
    known_rest e table flow long [] d k = tt
    known_rest e table flow long (q ∷ qs) d k =
        let other = other_pair e.0 q d.0 in
        let s = parted q e table flow long in
        let sum = rw other at s.sum in
        let meaning = rw other at (k.0.meaning) in (
          record { same = omega (arith, ints, sum, k.0.same); meaning = meaning },
          known_rest e table flow long qs d.1 k.1,
        )

    fits_part : (table : List ((ℤ × ℤ) × B)) (flow : List ℤ) → IsDistinct same_pair (keys_of table)
        → length flow ≡ length (listed_arcs lists table) → AllByRecursion (λ u. pos 0 ≤ℤ u) flow
        → AllByRecursion (IsKnown table flow) (keys_of table)
        → Fits kind carried lists meant table flow (arcs_by arc lines)
    fits_part [] [] d long some k = refl
    fits_part [] (u ∷ flow) d long some k = absurd (omega (arith, long))
    fits_part (e ∷ table) flow d long some k =
        let n = length (lists e.1) in
        let head = IsDistinct-head same_pair e.0 (keys_of table) d in
        let s = parted e.0 e table flow long in
        let sum = rw (pair_self e.0) at s.sum in
        let rest = none_units e.0 table (drop n flow) head s.others in
        let parts = each_taken n flow some in
        let units : total (take n flow) ≡ units_at e.0 (map (λ a. a.0) (listed_arcs lists whole)) all =
        omega (arith, ints, sum, rest, k.0.same) in
        let split = units_of e.0 lines can.units can.within in (
          s.first,
          parts.0,
          omega (arith, ints, units, can.fits e.0),
          bundle_each kind.IsArc arc e.0 lines can.each,
          subst (kind.Same (bundle e.0 (arcs_by arc lines))) (sym k.0.meaning ∙ rw (pair_self e.0) refl)
              (can.meaning e.0),
          (split.0, record { shares = split.1; whole = split.2 ∙ can.same e.0 ∙ sym units }),
          fits_part table (drop n flow) (IsDistinct-tail same_pair e.0 (keys_of table) d) s.others parts.1
              (known_rest e table flow long (keys_of table) head k.1),
        )

    known_all : (qs : List (ℤ × ℤ)) → AllByRecursion (IsKnown whole all) qs
    known_all [] = tt
    known_all (q ∷ qs) = (record { same = refl; meaning = refl }, known_all qs)

    -- the flow on the arcs of each pair can be split among its lines
    pub can_fit : IsDistinct same_pair (keys_of whole) → Fits kind carried lists meant whole all (arcs_by arc lines)
    can_fit d = fits_part whole all d can.whole can.some (known_all (keys_of whole))
