-- How the shares of pairs are filled from a flow, and given to lines.
use Rattle.std.specs.Prelude.{◌≡◌, ◌≢◌, ◌⊎◌, ◌-◌, ◌^◌, ℕ, ◌<◌, ℤ, pos, ◌+ℤ◌, ◌-ℤ◌, ◌≤ℤ◌, ◌<ℤ◌, List, [], ◌∷◌, length, set, take, drop, map, slice_get, Option, Some, MatchOption, Bool, cond, int_lt, get_or, false}
use Rattle.std.specs.List.{AllByRecursion, list_any}
use Rattle.std.specs.Ordering.{int_eq}
use Rattle.dn_arc_theory.specs.Canonical.{IsCostArc}
use Rattle.dn_arc_theory.specs.Fillings.{forced_units}
use Rattle.dn_arc_theory.specs.Kinds.{ArcKind}
use Rattle.dn_arc_theory.specs.State.FillCosts.{room, free_room}
use Rattle.dn_arc_theory.specs.Pairs.{bundle, same_pair}
use Rattle.dn_arc_theory.specs.Splits.{IsSplit, total}
use Rattle.dn_arc_theory.specs.declared.arc.CostArc.{CostArc}
use Rattle.dn_arc_lines.specs.declared.arc_line.ArcLine.{ArcLine}
use Rattle.pair_index.specs.State.Positions.{key_at}
use Rattle.dn_flow.specs.State.Spreads.{arcs_by, pair_of}
use Rattle.dn_flow.specs.declared.share.PairShare.{PairShare}

-- the units that the lines of each pair have yet to get
abbrev pub lefts : List PairShare → List ℤ
lefts shares = map (λ (s : PairShare). s.left) shares

-- a line has these units of what its pair has left, and so many remain then for the lines of the same cost
pub record HasPart (old : PairShare) (line : CostArc) (u rest : ℤ) : Type 0 where
  pub low : line.low ≤ℤ u
  pub high : u ≤ℤ line.cap
  pub cheap : line.cost <ℤ old.cost → u ≡ line.cap
  pub dear : old.cost <ℤ line.cost → u ≡ line.low
  pub last : line.cost ≡ old.cost → (u ≡ line.cap) ⊎ (rest ≤ℤ pos 0)
  pub none : line.cost ≡ old.cost → old.rest ≤ℤ pos 0 → u ≡ line.low
  pub over : old.rest ≤ℤ pos 0 → rest ≤ℤ pos 0
  pub same : line.cost ≢ old.cost → rest ≡ old.rest
  pub moved : line.cost ≡ old.cost → (u +ℤ rest) ≡ (line.low +ℤ old.rest)
  pub enough : pos 0 ≤ℤ old.rest → pos 0 ≤ℤ rest

-- a line takes these units of the share of its pair
pub record Takes (old : PairShare) (line : CostArc) (u : ℤ) (new : PairShare) : Type 0 where
  pub part : HasPart old line u new.rest
  pub left : old.left ≡ u +ℤ new.left
  pub cost : new.cost ≡ old.cost

-- a line takes its units of the share of its pair, or its pair has no share, and the line no room
abbrev pub GivesLine : (ArcLine → CostArc) → List (ℤ × ℤ) → List PairShare → ArcLine → ℤ → List PairShare → Type 0
GivesLine bounds keys old line u new =
    ((i : ℕ) × (share : PairShare) × (s : PairShare) × (i < length keys) × (key_at keys i ≡ pair_of line)
    × (slice_get old i ≡ Some share) × Takes share (bounds line) u s × (new ≡ set old i s))
    ⊎ ((list_any (same_pair (pair_of line)) keys ≡ false) × ((bounds line).low ≡ pos 0) × ((bounds line).cap ≡ pos 0)
    × (u ≡ pos 0) × (new ≡ old))

-- each line in its order takes its units
abbrev pub Gives : (ArcLine → CostArc) → List (ℤ × ℤ) → List PairShare → List ArcLine → List ℤ → List PairShare → Type 0
Gives bounds keys old [] units new = (units ≡ []) × (new ≡ old)
Gives bounds keys old (line ∷ lines) units new =
    (u : ℤ) × (rest : List ℤ) × (next : List PairShare) × (units ≡ u ∷ rest) × GivesLine bounds keys old line u next
    × Gives bounds keys next lines rest new

-- the share of each pair has the units of its arcs
abbrev pub Fills : {B Arc : Type 0} → (B → List Arc) → List ((ℤ × ℤ) × B) → List ℤ → List PairShare → Type 0
Fills lists [] flow shares = flow ≡ []
Fills lists (e ∷ table) flow [] = ⊥
Fills lists (e ∷ table) flow (s ∷ shares) =
    (length (take (length (lists e.1)) flow) ≡ length (lists e.1)) × (s.left ≡ total (take (length (lists e.1)) flow))
    × Fills lists table (drop (length (lists e.1)) flow) shares

-- no share has units left
abbrev pub AreNone : List PairShare → Type 0
AreNone shares = AllByRecursion (λ (s : PairShare). s.left ≡ pos 0) shares

-- the free capacity of the arcs whose cost passes the test
abbrev pub rooms_by : (ℤ → Bool) → List CostArc → ℤ
rooms_by test [] = pos 0
rooms_by test (a ∷ rest) = cond (test a.cost) (room a) (pos 0) +ℤ rooms_by test rest

-- that of the arcs that cost less than this, and of those that cost this
abbrev pub rooms_below : ℤ → List CostArc → ℤ
rooms_below c arcs = rooms_by (λ cost. int_lt cost c) arcs

abbrev pub rooms_at : ℤ → List CostArc → ℤ
rooms_at c arcs = rooms_by (λ cost. int_eq cost c) arcs

-- the share has what these lines of its pair take, in their order
pub record IsBalanced (s : PairShare) (lines : List CostArc) : Type 0 where
  pub left : s.left ≡ forced_units lines +ℤ (rooms_below s.cost lines +ℤ s.rest)
  pub some : pos 0 ≤ℤ s.rest
  pub fits : s.rest ≤ℤ rooms_at s.cost lines

-- there is a share, which has what these lines take
abbrev pub SharesOut : List CostArc → Option PairShare → Type 0
SharesOut lines share = MatchOption share ⊥ (λ s. IsBalanced s lines)

-- the share at a position
abbrev pub share_at : List PairShare → ℕ → PairShare
share_at shares i = get_or shares i (record { cost = pos 0; rest = pos 0; left = pos 0 })

-- each share has what the lines of its pair take, and the lines of pairs without a share have no room
pub record AreBalanced (bounds : ArcLine → CostArc) (keys : List (ℤ × ℤ)) (shares : List PairShare)
    (lines : List ArcLine) : Type 0 where
  pub each : AllByRecursion (λ line. IsCostArc (bounds line)) lines
  pub shares_are : (i : ℕ) → i < length keys
      → IsBalanced (share_at shares i) (bundle (key_at keys i) (arcs_by bounds lines))
  pub others : AllByRecursion (λ line. list_any (same_pair (pair_of line)) keys ≡ false
      → ((bounds line).low ≡ pos 0) × ((bounds line).cap ≡ pos 0)) lines

-- the step of a curve up to which these units fill it, beyond its forced units
abbrev pub IsAtStep : ℤ → List CostArc → ℤ → PairShare → Type 0
IsAtStep forced free units s =
    ((free ≡ []) × (s.rest ≡ pos 0) × (units ≡ forced))
    ⊎ ((i : ℕ) × (a : CostArc) × (slice_get free i ≡ Some a) × (s.cost ≡ a.cost)
    × ((s.rest +ℤ free_room (take i free)) ≡ (units -ℤ forced)) × (s.rest ≤ℤ room a)
    × ((i ≡ 0) ⊎ (pos 0 <ℤ s.rest)))

module _ {Arc : Type 0} (kind : ArcKind Arc) (carried : Arc → CostArc) where
  -- the flow on the arcs of each pair can be split among these arcs, which mean the same
  abbrev pub Fits : {B : Type 0} → (B → List Arc) → (B → List Arc) → List ((ℤ × ℤ) × B) → List ℤ
      → List ((ℤ × ℤ) × Arc) → Type 0
  Fits lists meant [] flow arcs = flow ≡ []
  Fits lists meant (e ∷ table) flow arcs =
      let first = take (length (lists e.1)) flow in
      (length first ≡ length (lists e.1)) × AllByRecursion (λ u. pos 0 ≤ℤ u) first × (total first ≤ℤ pos (2 ^ 63 - 1))
      × AllByRecursion kind.IsArc (bundle e.0 arcs) × kind.Same (bundle e.0 arcs) (meant e.1)
      × ((xs : List ℤ) × IsSplit (map carried (bundle e.0 arcs)) (total first) xs)
      × Fits lists meant table (drop (length (lists e.1)) flow) arcs

-- the share of each pair has what its arcs take
abbrev pub AreFilled : {B Arc : Type 0} → (Arc → CostArc) → List ((ℤ × ℤ) × B) → List PairShare
    → List ((ℤ × ℤ) × Arc) → Type 0
AreFilled carried [] shares arcs = Unit {0}
AreFilled carried (e ∷ table) [] arcs = ⊥
AreFilled carried (e ∷ table) (s ∷ shares) arcs =
    IsBalanced s (map carried (bundle e.0 arcs)) × AreFilled carried table shares arcs
