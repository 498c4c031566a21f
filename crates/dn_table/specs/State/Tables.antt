-- The arcs that a list of bundles by ordered pair represents, how an arc changes the list, and what an iterator over it
-- returns.
use Rattle.std.specs.Prelude.{◌≡◌, ◌⊎◌, ◌↔◌, ◌<◌, ◌-◌, ◌^◌, ℕ, ℤ, pos, ◌<ℤ◌, List, [], ◌∷◌, ◌++◌, None, Option, MatchOption, ◌≤◌, false, IsSome}
use Rattle.std.specs.Borrow.{Bor}
use Rattle.std.specs.List.{AllByRecursion}
use Rattle.std.specs.List.Sorted.{IsStrictlySortedBy}
use Rattle.std.specs.Map.{keys_of, lookup}
use Rattle.dn_arc_theory.specs.State.Bundles.{BundleFacts, meant, listed_of}
use Rattle.dn_arc_theory.specs.State.Sizes.{ArcSizes}
use Rattle.dn_arc_theory.specs.Kinds.{ArcKind}
use Rattle.dn_arc_theory.specs.State.CanonArcs.{AreCanonArcsOf, NeedsMore}
use Rattle.dn_table.specs.GraphEntries.{graph_entries}
use Rattle.dn_arc_theory.specs.Pairs.{bundle, pair_cmp, same_pair}

-- the arcs that the table lists for an ordered pair
abbrev pub listed_at : {B Arc : Type 0} → (B → List Arc) → List ((ℤ × ℤ) × B) → ℤ × ℤ → List Arc
listed_at lists table p = listed_of lists (lookup (same_pair p) table)

-- for each pair, the table lists canonical arcs that mean the same as these arcs; a pair whose arcs mean the same as no
-- arcs has no bundle
pub record TableLists {B Arc : Type 0} (kind : ArcKind Arc) (lists : B → List Arc) (table : List ((ℤ × ℤ) × B))
    (arcs : List ((ℤ × ℤ) × Arc)) : Type 0 where
  pub stands : (p : ℤ × ℤ) → AreCanonArcsOf kind (listed_at lists table p) (bundle p arcs)
  pub absent : (p : ℤ × ℤ) → (lookup (same_pair p) table ≡ None) ↔ kind.Same (bundle p arcs) []

-- the table represents these arcs: its bundles are sorted by ascending pair and list arcs that mean the same
pub record TableStandsFor {B Arc : Type 0} (kind : ArcKind Arc) (lists : B → List Arc) (table : List ((ℤ × ℤ) × B))
    (arcs : List ((ℤ × ℤ) × Arc)) : Type 0 where
  pub ascending : IsStrictlySortedBy pair_cmp (keys_of table)
  pub lists_them : TableLists kind lists table arcs

-- the entry that an item of the iterator represents
abbrev pub entry_of : {B : Type 0} → (ℤ × ℤ) × Bor B → (ℤ × ℤ) × B
entry_of x = (x.0, x.1.now)

-- the two tables have the same bundles at all pairs but this one
abbrev pub IsSameElsewhere : {B : Type 0} → ℤ × ℤ → List ((ℤ × ℤ) × B) → List ((ℤ × ℤ) × B) → Type 0
IsSameElsewhere pair old new =
    (q : ℤ × ℤ) → same_pair pair q ≡ false → lookup (same_pair q) new ≡ lookup (same_pair q) old

-- the count of all, or none if there are so many or more
abbrev pub CountsBelow : ℕ → ℕ → Option ℕ → Type 0
CountsBelow limit all count = MatchOption count (limit ≤ all) (λ n. n ≡ all)

-- the new table has one more arc at this pair and is the same elsewhere: its bundle there means the earlier arcs and
-- this one, and a pair that had no bundle has one exactly if the arc means anything
pub record Grows {B Arc : Type 0} (kind : ArcKind Arc) (lists : B → List Arc) (old new : List ((ℤ × ℤ) × B))
    (pair : ℤ × ℤ) (arc : Arc) : Type 0 where
  pub here : kind.Same (listed_at lists new pair) (listed_at lists old pair ++ arc ∷ [])
  pub kept : IsSome (lookup (same_pair pair) old) → IsSome (lookup (same_pair pair) new)
  pub fresh : lookup (same_pair pair) old ≡ None
      → (lookup (same_pair pair) new ≡ None) ↔ kind.Same (listed_at lists new pair) []
  pub others : IsSameElsewhere pair old new

-- each arc may occur in a problem
abbrev pub AreArcs : {Arc : Type 0} → ArcKind Arc → List ((ℤ × ℤ) × Arc) → Type 0
AreArcs kind arcs = AllByRecursion (λ a. kind.IsArc a.1) arcs

-- one more arc of a graph needs memory: the arcs make more entries with it, or it spreads the forced units of its pair
abbrev pub GraphNeedsMore : {Arc : Type 0} → ArcSizes Arc → List ((ℤ × ℤ) × Arc) → (ℤ × ℤ) × Arc → Type 0
GraphNeedsMore sizes arcs a =
    (graph_entries sizes.entries arcs < graph_entries sizes.entries (arcs ++ a ∷ []))
    ⊎ sizes.Spreads (bundle a.0 arcs) a.1

-- arcs that mean something also mean something with one more arc
abbrev pub Stays : {Arc : Type 0} → ArcKind Arc → Type 0
Stays {Arc} kind =
    (xs : List Arc) (a : Arc) → AllByRecursion kind.IsArc xs → kind.IsArc a → kind.Same (xs ++ a ∷ []) []
    → kind.Same xs []

module _ {B Arc : Type 0} (bundle : BundleFacts B Arc) where
  -- how many entries the arcs of a bundle make
  abbrev pub entries_in : B → ℕ
  entries_in b = bundle.sizes.entries (meant bundle b)

  -- the bundles represent these arcs
  abbrev pub Lists : List ((ℤ × ℤ) × B) → List ((ℤ × ℤ) × Arc) → Type 0
  Lists = TableLists bundle.kind (meant bundle)

  -- the new table has one more arc at this pair
  abbrev pub Adds : List ((ℤ × ℤ) × B) → List ((ℤ × ℤ) × B) → ℤ × ℤ → Arc → Type 0
  Adds = Grows bundle.kind (meant bundle)

  -- with this arc, the capacities of its pair sum to more than 2^63 - 1
  abbrev pub IsTooMuch : List ((ℤ × ℤ) × B) → ℤ × ℤ → Arc → Type 0
  IsTooMuch table pair arc = pos (2 ^ 63 - 1) <ℤ bundle.kind.capacity (listed_at (meant bundle) table pair ++ arc ∷ [])

  -- one more arc at this pair needs memory
  abbrev pub WidensAt : List ((ℤ × ℤ) × B) → ℤ × ℤ → Arc → Type 0
  WidensAt table pair arc = NeedsMore bundle.sizes (listed_at (meant bundle) table pair) arc

  -- n is how many entries the arcs of the table make, if that is below 2^64
  abbrev pub CountsEntries : List ((ℤ × ℤ) × B) → ℕ → Type 0
  CountsEntries table n = (arcs : List ((ℤ × ℤ) × Arc)) → Lists table arcs → AreArcs bundle.kind arcs
      → graph_entries bundle.sizes.entries arcs < 2 ^ 64 → n ≡ graph_entries bundle.sizes.entries arcs
