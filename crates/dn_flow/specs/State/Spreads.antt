-- A flow on the arc lines of a text that is the same as one on canonical arcs (this project's profile; the formats of
-- the First DIMACS Challenge let parallel arcs carry any units between their lower bounds and capacities).
use Rattle.std.specs.Prelude.{◌≡◌, ◌≢◌, ◌⊎◌, ◌-◌, ◌^◌, ℕ, ◌<◌, ℤ, pos, ◌+ℤ◌, ◌≤ℤ◌, ◌<ℤ◌, List, [], ◌∷◌, length, map, cond}
use Rattle.std.specs.List.{AllByRecursion, zip}
use Rattle.dn_arc_theory.specs.Canonical.{ArePairwise}
use Rattle.dn_arc_theory.specs.Kinds.{ArcKind, lengths, capacities, costs}
use Rattle.dn_arc_theory.specs.Pairs.{bundle, same_pair}
use Rattle.dn_arc_theory.specs.Splits.{AreShares}
use Rattle.dn_arc_theory.specs.declared.arc.LengthArc.{LengthArc}
use Rattle.dn_arc_theory.specs.declared.arc.CapArc.{CapArc}
use Rattle.dn_arc_theory.specs.declared.arc.CostArc.{CostArc}
use Rattle.dn_arc_theory.specs.declared.arc.Form.{Form}
use Rattle.dn_arc_theory.specs.declared.arc.Form.TheVariants.{One}
use Rattle.dn_table.specs.State.Tables.{listed_at}
use Rattle.dn_arc_lines.specs.declared.arc_line.ArcLine.{ArcLine}
use Rattle.dn_bundle.specs.State.Listings.{least_arcs, total_arcs, curve_arcs}
use Rattle.dn_canon.specs.State.ListedArcs.{listed_arcs}
use Rattle.dn_instance.specs.State.Helds.{Contents, OfMin, OfMax, OfSp}

-- the ordered pair of a line
abbrev pub pair_of : ArcLine → ℤ × ℤ
pair_of line = (line.tail, line.head)

-- the numbers of the lines ascend, from one above this
abbrev pub AreAscending : ℕ → List ArcLine → Type 0
AreAscending last [] = Unit {0}
AreAscending last (line ∷ lines) = (last < line.line) × AreAscending line.line lines

-- these are so many lines, in the order of a text
pub record AreLines (count : ℤ) (lines : List ArcLine) : Type 0 where
  pub all : pos (length lines) ≡ count
  pub ascending : AreAscending 0 lines

-- the arc of a line, by kind
abbrev pub length_line : ArcLine → LengthArc
length_line line = record { length = line.a }

abbrev pub cap_line : ArcLine → CapArc
cap_line line = record { cap = line.a }

abbrev pub cost_line : ArcLine → CostArc
cost_line line = record { low = line.a; cap = line.b; cost = line.c }

-- what an arc carries: in `sp` each carries any units that fit 64 bits, at its length
abbrev pub length_carried : LengthArc → CostArc
length_carried a = record { low = pos 0; cap = pos (2 ^ 63 - 1); cost = a.length }

abbrev pub cap_carried : CapArc → CostArc
cap_carried a = record { low = pos 0; cap = a.cap; cost = pos 0 }

abbrev pub cost_carried : CostArc → CostArc
cost_carried a = a

-- the arcs of lines, each at its pair
abbrev pub arcs_by : {Arc : Type 0} → (ArcLine → Arc) → List ArcLine → List ((ℤ × ℤ) × Arc)
arcs_by arc lines = map (λ line. (pair_of line, arc line)) lines

-- the units of the pair p: the sum of those that have this pair
abbrev pub units_at : ℤ × ℤ → List (ℤ × ℤ) → List ℤ → ℤ
units_at p [] units = pos 0
units_at p (q ∷ pairs) [] = pos 0
units_at p (q ∷ pairs) (u ∷ units) = cond (same_pair p q) u (pos 0) +ℤ units_at p pairs units

-- of two lines of one pair, the cheaper one, or of equal ones the first, is full, or the other has its lower bound
pub record IsInOrder (bounds : ArcLine → CostArc) (x y : ArcLine × ℤ) : Type 0 where
  pub before : pair_of x.0 ≡ pair_of y.0 → (bounds x.0).cost ≤ℤ (bounds y.0).cost
      → (x.1 ≡ (bounds x.0).cap) ⊎ (y.1 ≡ (bounds y.0).low)
  pub behind : pair_of x.0 ≡ pair_of y.0 → (bounds y.0).cost <ℤ (bounds x.0).cost
      → (y.1 ≡ (bounds y.0).cap) ⊎ (x.1 ≡ (bounds x.0).low)

-- these units of the lines are the flow on the canonical arcs, and the cheapest lines of each pair have them
pub record IsSpread {B Arc : Type 0} (bounds : ArcLine → CostArc) (lists : B → List Arc) (table : List ((ℤ × ℤ) × B))
    (flow : List ℤ) (lines : List ArcLine) (units : List ℤ) : Type 0 where
  pub each_arc : length flow ≡ length (listed_arcs lists table)
  pub within : AreShares (map bounds lines) units
  pub same : (p : ℤ × ℤ)
      → units_at p (map pair_of lines) units ≡ units_at p (map (λ a. a.0) (listed_arcs lists table)) flow
  pub cheapest : ArePairwise (IsInOrder bounds) (zip lines units)

-- the lines mean what the table does, and some units of them are the flow; those of each pair fit 64 bits
pub record CanSpread {B Arc : Type 0} (kind : ArcKind Arc) (arc : ArcLine → Arc) (carried : Arc → CostArc)
    (lists meant : B → List Arc) (table : List ((ℤ × ℤ) × B)) (flow : List ℤ) (lines : List ArcLine) : Type 0 where
  pub each : AllByRecursion (λ line. kind.IsArc (arc line)) lines
  pub meaning : (p : ℤ × ℤ) → kind.Same (bundle p (arcs_by arc lines)) (listed_at meant table p)
  pub whole : length flow ≡ length (listed_arcs lists table)
  pub some : AllByRecursion (λ u. pos 0 ≤ℤ u) flow
  pub fits : (p : ℤ × ℤ) → units_at p (map (λ a. a.0) (listed_arcs lists table)) flow ≤ℤ pos (2 ^ 63 - 1)
  pub units : List ℤ
  pub within : AreShares (map (λ line. carried (arc line)) lines) units
  pub same : (p : ℤ × ℤ) → units_at p (map pair_of lines) units
      ≡ units_at p (map (λ a. a.0) (listed_arcs lists table)) flow

-- the same by the kind of the instance
abbrev pub CanSpreadOn : Form → Contents → List ℤ → List ArcLine → Type 0
CanSpreadOn form (OfMin flows table) =
    CanSpread costs cost_line cost_carried (curve_arcs form) (curve_arcs One) table
CanSpreadOn form (OfMax source sink table) = CanSpread capacities cap_line cap_carried total_arcs total_arcs table
CanSpreadOn form (OfSp table) = CanSpread lengths length_line length_carried least_arcs least_arcs table
CanSpreadOn form _ = λ flow lines. ⊥

-- the same by the kind of the instance; a companion has no arcs
abbrev pub Spreads : Form → Contents → List ℤ → List ArcLine → List ℤ → Type 0
Spreads form (OfMin flows table) = IsSpread (λ line. cost_carried (cost_line line)) (curve_arcs form) table
Spreads form (OfMax source sink table) = IsSpread (λ line. cap_carried (cap_line line)) total_arcs table
Spreads form (OfSp table) = IsSpread (λ line. length_carried (length_line line)) least_arcs table
Spreads form _ = λ flow lines units. ⊥

-- a companion has no arcs
abbrev pub IsCompanion : Contents → Type 0
IsCompanion (OfMin flows table) = ⊥
IsCompanion (OfMax source sink table) = ⊥
IsCompanion (OfSp table) = ⊥
IsCompanion _ = Unit {0}

-- there are fewer shares than pairs, or not as many units as lines
abbrev pub LacksRoom : ℕ → ℕ → ℕ → ℕ → Type 0
LacksRoom pairs shares lines units = (shares < pairs) ⊎ (units ≢ lines)
