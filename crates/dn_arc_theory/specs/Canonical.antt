-- The canonical arcs of one ordered pair, for each kind and form (this project's profile).
use Rattle.std.specs.Prelude.{◌≡◌, pos, ◌+ℤ◌, ◌≤ℤ◌, ◌<ℤ◌, List, [], ◌∷◌, ◌++◌, Bool, filter, int_lt}
use Rattle.std.specs.List.{AllByRecursion}
use Rattle.dn_arc_theory.specs.declared.arc.LengthArc.{LengthArc}
use Rattle.dn_arc_theory.specs.declared.arc.CapArc.{CapArc}
use Rattle.dn_arc_theory.specs.declared.arc.CostArc.{CostArc}
use Rattle.dn_arc_theory.specs.declared.arc.Form.{Form}
use Rattle.dn_arc_theory.specs.declared.arc.Form.TheVariants.{One, Two}

-- in a `min` problem, LOW is at least 0 and at most CAP
pub record IsCostArc (a : CostArc) : Type 0 where
  pub some : pos 0 ≤ℤ a.low
  pub room : a.low ≤ℤ a.cap

-- in a `max` problem, CAP is at least 0
pub record IsCapArc (a : CapArc) : Type 0 where
  pub some : pos 0 ≤ℤ a.cap

-- `sp`: canonical arcs are at most one arc
abbrev pub AreCanonLengths : List LengthArc → Type 0
AreCanonLengths [] = Unit {0}
AreCanonLengths (a ∷ []) = Unit {0}
AreCanonLengths (a ∷ b ∷ rest) = ⊥

-- `max`: canonical arcs are at most one arc, whose CAP is at least 1
abbrev pub AreCanonCaps : List CapArc → Type 0
AreCanonCaps [] = Unit {0}
AreCanonCaps (a ∷ []) = pos 1 ≤ℤ a.cap
AreCanonCaps (a ∷ b ∷ rest) = ⊥

-- a fixed arc has LOW = CAP, at least 1
pub record IsFixedArc (a : CostArc) : Type 0 where
  pub some : pos 1 ≤ℤ a.low
  pub full : a.cap ≡ a.low

-- a free arc has LOW 0 and a CAP of at least 1
pub record IsFreeArc (a : CostArc) : Type 0 where
  pub none : a.low ≡ pos 0
  pub room : pos 1 ≤ℤ a.cap

-- an arc of form 2 has 0 <= LOW <= CAP and a CAP of at least 1
pub record IsMixedArc (a : CostArc) : Type 0 where
  pub is_arc : IsCostArc a
  pub room : pos 1 ≤ℤ a.cap

-- at most two arcs; if there are two, their costs are c and c + 1, in this order
abbrev pub AreNear : List CostArc → Type 0
AreNear [] = Unit {0}
AreNear (a ∷ []) = Unit {0}
AreNear (a ∷ b ∷ []) = b.cost ≡ a.cost +ℤ pos 1
AreNear (a ∷ b ∷ c ∷ rest) = ⊥

-- each element stands in this relation to all elements after it
abbrev pub ArePairwise : {X : Type 0} → (X → X → Type 0) → List X → Type 0
ArePairwise R [] = Unit {0}
ArePairwise R (x ∷ rest) = AllByRecursion (R x) rest × ArePairwise R rest

-- the arcs are sorted by strictly ascending COST
abbrev pub AreAscending : List CostArc → Type 0
AreAscending arcs = ArePairwise (λ a b. a.cost <ℤ b.cost) arcs

-- `min`, form 1: at most two fixed arcs, of costs c and c + 1, and then free arcs by strictly ascending COST
pub record IsFormOne (arcs : List CostArc) : Type 0 where
  pub fixed : List CostArc
  pub free : List CostArc
  pub parts : arcs ≡ fixed ++ free
  pub each_fixed : AllByRecursion IsFixedArc fixed
  pub near : AreNear fixed
  pub each_free : AllByRecursion IsFreeArc free
  pub ascending : AreAscending free

-- the LOW of the arc is above 0
abbrev pub has_low : CostArc → Bool
has_low a = int_lt (pos 0) a.low

-- `min`, form 2: one arc for each cost, by strictly ascending COST; at most two arcs have LOW above 0, at costs c and c
-- + 1
pub record IsFormTwo (arcs : List CostArc) : Type 0 where
  pub each : AllByRecursion IsMixedArc arcs
  pub ascending : AreAscending arcs
  pub near : AreNear (filter has_low arcs)

-- `min`: the canonical arcs of this form
abbrev pub AreCanonCosts : Form → List CostArc → Type 0
AreCanonCosts One arcs = IsFormOne arcs
AreCanonCosts Two arcs = IsFormTwo arcs
