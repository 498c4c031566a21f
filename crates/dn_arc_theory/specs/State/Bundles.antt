-- What every kind of bundle provides to the layers above it.
use Rattle.std.specs.Prelude.{◌≡◌, ℕ, ◌+◌, ◌-◌, ◌^◌, ℤ, pos, ◌+ℤ◌, ◌≤ℤ◌, ◌<ℤ◌, List, [], ◌∷◌, ◌++◌, slice_get, Bool, Option, Some, None, MatchOption, FitsSigned}
use Rattle.std.specs.Int.{w64}
use Rattle.std.specs.List.{AllByRecursion}
use Rattle.dn_arc_theory.specs.State.Sizes.{ArcSizes}
use Rattle.dn_arc_theory.specs.Kinds.{ArcKind}
use Rattle.dn_arc_theory.specs.State.CanonArcs.{NeedsMore}
use Rattle.dn_arc_theory.specs.State.Equivalences.{IsMeaning}
use Rattle.dn_arc_theory.specs.declared.arc.Form.{Form}
use Rattle.dn_arc_theory.specs.declared.arc.Form.TheVariants.{One}
use Rattle.dn_arc_theory.specs.declared.difference.How.{How}

-- says of two lists of arcs of one pair how they differ
abbrev pub ArcDiffer : Type 0 → Type 1
ArcDiffer Arc = List Arc → List Arc → How → Type 0

-- what a kind of bundle specifies about itself
pub record BundleFacts (B Arc : Type 0) : Type 1 where
  -- the kind of its arcs, which defines what they mean
  pub kind : ArcKind Arc
  -- what must be kept of its arcs
  pub sizes : ArcSizes Arc
  -- the first difference in meaning between two lists of arcs of one pair
  pub Differ : ArcDiffer Arc
  -- the canonical arcs that the bundle lists, by form; it represents all arcs that mean the same
  pub listed : Form → B → List Arc
  -- whether adding an arc may run out of memory
  pub wants_memory : Bool

-- the laws of a kind of arcs
pub record IsKind {Arc : Type 0} (kind : ArcKind Arc) : Type 0 where
  -- having the same meaning is an equivalence that ignores the order of arcs, and adding one arc to both lists keeps it
  pub meaning : IsMeaning kind.Same
  -- the numbers of an arc determine the arc
  pub one_arc : (a b : Arc) → kind.numbers a ≡ kind.numbers b → a ≡ b
  -- the capacity of two lists is the sum of their capacities
  pub capacity_append : (xs ys : List Arc) → kind.capacity (xs ++ ys) ≡ kind.capacity xs +ℤ kind.capacity ys
  pub capacity_some : (xs : List Arc) → AllByRecursion kind.IsArc xs → pos 0 ≤ℤ kind.capacity xs
  -- canonical arcs may occur in a problem
  pub canon_arcs : (form : Form) (xs : List Arc) → kind.IsCanon form xs → AllByRecursion kind.IsArc xs
  -- the empty list of arcs is canonical
  pub none_canon : (form : Form) → kind.IsCanon form []
  -- canonical arcs that mean the same as no arcs are the empty list
  pub nothing_listed : (form : Form) (xs : List Arc) → kind.IsCanon form xs → kind.Same xs [] → xs ≡ []
  -- arcs that mean the same have the same capacity
  pub same_capacity : (xs ys : List Arc) → AllByRecursion kind.IsArc xs → AllByRecursion kind.IsArc ys → kind.Same xs ys
      → kind.capacity xs ≡ kind.capacity ys

-- the laws of what must be kept of arcs
pub record AreSizes {Arc : Type 0} (kind : ArcKind Arc) (sizes : ArcSizes Arc) : Type 0 where
  -- arcs that mean the same make the same number of entries
  pub same_entries : (xs ys : List Arc) → AllByRecursion kind.IsArc xs → AllByRecursion kind.IsArc ys → kind.Same xs ys
      → sizes.entries xs ≡ sizes.entries ys
  -- which arc spreads the forced units depends only on what the arcs mean
  pub same_spreads : (xs ys : List Arc) (a : Arc) → AllByRecursion kind.IsArc xs → AllByRecursion kind.IsArc ys
      → kind.Same xs ys → sizes.Spreads xs a → sizes.Spreads ys a
  -- no arcs make no entries, and arcs that make none mean the same as no arcs
  pub none_entries : sizes.entries [] ≡ 0
  pub no_entries : (xs : List Arc) → AllByRecursion kind.IsArc xs → sizes.entries xs ≡ 0 → kind.Same xs []

-- the laws of first differences in meaning
pub record AreDifferences {Arc : Type 0} (kind : ArcKind Arc) (Differ : ArcDiffer Arc) : Type 0 where
  -- arcs that mean the same have no difference
  pub none_differ : (xs ys : List Arc) (how : How) → Differ xs ys how → kind.Same xs ys → ⊥
  -- two lists of arcs have at most one first difference
  pub one_differ : (xs ys : List Arc) (how other : How) → Differ xs ys how → Differ xs ys other → how ≡ other
  -- the first difference depends only on what the arcs mean
  pub same_differ : (xs xs' ys ys' : List Arc) (how : How) → kind.Same xs xs' → kind.Same ys ys' → Differ xs ys how
      → Differ xs' ys' how

-- canonical arcs of one form that mean the same are equal
abbrev pub IsDetermined : {Arc : Type 0} → ArcKind Arc → Type 0
IsDetermined kind =
    (form : Form) (xs ys : List _) → kind.IsCanon form xs → kind.IsCanon form ys → kind.Same xs ys → xs ≡ ys

-- each number of each arc fits 64 signed bits
abbrev pub NumbersFit : {Arc : Type 0} → ArcKind Arc → List Arc → Type 0
NumbersFit kind xs = AllByRecursion (λ a. AllByRecursion (FitsSigned w64) (kind.numbers a)) xs

-- the arcs that a bundle lists, or no arcs if there is no bundle
abbrev pub listed_of : {B Arc : Type 0} → (B → List Arc) → Option B → List Arc
listed_of listed None = []
listed_of listed (Some b) = listed b

-- the option is the element after this one, or none after the last, wherever the list has this element
abbrev pub IsAfter : {A : Type 0} → List A → A → Option A → Type 0
IsAfter xs x next = (i : ℕ) → slice_get xs i ≡ Some x → next ≡ slice_get xs (i + 1)

module _ {B Arc : Type 0} (bundle : BundleFacts B Arc) where
  -- the arcs that a bundle lists in form 1, which have its meaning
  abbrev pub meant : B → List Arc
  meant b = bundle.listed One b

  -- the bundle means what the arc does, or there is none and the arc means the same as no arcs
  abbrev pub IsBundleOf : Arc → Option B → Type 0
  IsBundleOf arc o =
      bundle.kind.Same (listed_of meant o) (arc ∷ [])
      × MatchOption o (Unit {0}) (λ b. bundle.kind.Same (meant b) [] → ⊥)

  -- the second bundle means what the first one does with one more arc
  abbrev pub Gains : B → B → Arc → Type 0
  Gains old new arc = bundle.kind.Same (meant new) (meant old ++ arc ∷ [])

  -- one more arc of a bundle needs memory
  abbrev pub Widens : B → Arc → Type 0
  Widens b arc = NeedsMore bundle.sizes (meant b) arc

  -- with one more arc, the capacities of a bundle sum to more than 2 ^ 63 - 1
  abbrev pub PassesSum : B → Arc → Type 0
  PassesSum b arc = pos (2 ^ 63 - 1) <ℤ bundle.kind.capacity (meant b ++ arc ∷ [])

  -- the first difference between the arcs of two bundles, or none if they mean the same; where there is no bundle,
  -- there are no arcs
  abbrev pub IsHow : Option B → Option B → Option How → Type 0
  IsHow left right how =
      MatchOption how (bundle.kind.Same (listed_of meant left) (listed_of meant right))
      (bundle.Differ (listed_of meant left) (listed_of meant right))
