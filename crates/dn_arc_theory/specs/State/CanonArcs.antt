-- Canonical arcs that represent the arcs of one ordered pair, and which arc of a pair needs memory.
use Rattle.std.specs.Prelude.{◌⊎◌, ◌<◌, List, [], ◌∷◌, ◌++◌}
use Rattle.dn_arc_theory.specs.declared.arc.Form.TheVariants.{One}
use Rattle.dn_arc_theory.specs.State.Sizes.{ArcSizes}
use Rattle.dn_arc_theory.specs.Kinds.{ArcKind}

-- canonical arcs in form 1 that mean the same as these arcs
pub record AreCanonArcsOf {Arc : Type 0} (kind : ArcKind Arc) (listed arcs : List Arc) : Type 0 where
  pub canonical : kind.IsCanon One listed
  pub same : kind.Same listed arcs

-- one more arc of the pair needs memory: it makes another entry, or spreads the forced units
abbrev pub NeedsMore : {Arc : Type 0} → ArcSizes Arc → List Arc → Arc → Type 0
NeedsMore sizes arcs a = (sizes.entries arcs < sizes.entries (arcs ++ a ∷ [])) ⊎ sizes.Spreads arcs a
