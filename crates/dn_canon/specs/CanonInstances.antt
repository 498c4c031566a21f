-- Which instances are canonical in each form, and which is the canonical instance of an instance (this project's
-- profile).
use Rattle.std.specs.Prelude.{ℤ, List, IsTrue}
use Rattle.dn_arc_theory.specs.declared.arc.Form.{Form}
use Rattle.dn_arc_theory.specs.Canonical.{ArePairwise}
use Rattle.dn_arc_theory.specs.Kinds.{ArcKind, costs, capacities, lengths}
use Rattle.dn_arc_theory.specs.Pairs.{pair_le, bundle}
use Rattle.dn_instance.specs.Instances.{Graph, Instance, MinCostFlow, MaxFlow, ShortestPaths, Sources, Queries, Coordinates}
use Rattle.dn_instance.specs.Sameness.{IsSame}
use Rattle.dn_instance.specs.Validity.{IsValid}

-- the arcs are sorted by ascending (SRC, DST)
abbrev pub AreInOrder : {Arc : Type 0} → List ((ℤ × ℤ) × Arc) → Type 0
AreInOrder arcs = ArePairwise (λ a b. IsTrue (pair_le a.0 b.0)) arcs

-- the arcs are sorted, and those of each ordered pair are canonical in this form
pub record IsCanonGraph {Arc : Type 0} (kind : ArcKind Arc) (form : Form) (graph : Graph Arc) : Type 0 where
  pub in_order : AreInOrder graph.arcs
  pub canonical : (p : ℤ × ℤ) → kind.IsCanon form (bundle p graph.arcs)

-- the graph of the instance is canonical; every companion is canonical
abbrev pub IsCanonInstance : Form → Instance → Type 0
IsCanonInstance form (MinCostFlow supplies graph) = IsCanonGraph costs form graph
IsCanonInstance form (MaxFlow source sink graph) = IsCanonGraph capacities form graph
IsCanonInstance form (ShortestPaths graph) = IsCanonGraph lengths form graph
IsCanonInstance form (Sources ids) = Unit {0}
IsCanonInstance form (Queries pairs) = Unit {0}
IsCanonInstance form (Coordinates points) = Unit {0}

-- J is the canonical instance of I in this form: valid, canonical, and the same problem
pub record IsCanonInstanceOf (form : Form) (J I : Instance) : Type 0 where
  pub valid : IsValid J
  pub canonical : IsCanonInstance form J
  pub same : IsSame I J
