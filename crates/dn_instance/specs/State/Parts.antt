-- Graph problems that consist of parts: the arcs of the problem are the arcs of its parts, one part after another (this
-- project's profile).
use Rattle.std.specs.Prelude.{◌≡◌, ◌≢◌, ℤ, List, [], ◌∷◌, map}
use Rattle.std.specs.List.{AllByRecursion, flat_map}
use Rattle.dn_arc_theory.specs.Kinds.{ArcKind, costs, capacities, lengths}
use Rattle.dn_instance.specs.Instances.{Graph, Instance, MinCostFlow, MaxFlow, ShortestPaths}
use Rattle.dn_instance.specs.Sameness.{IsSame}

-- the arcs of a graph as their lines give them: the ordered pair, and the numbers after it
abbrev pub graph_lines : {Arc : Type 0} → ArcKind Arc → Graph Arc → List ((ℤ × ℤ) × List ℤ)
graph_lines kind graph = map (λ a. (a.0, kind.numbers a.1)) graph.arcs

-- the arcs of a graph problem as their lines give them; a companion has no arcs
abbrev pub arc_lines : Instance → List ((ℤ × ℤ) × List ℤ)
arc_lines (MinCostFlow supplies graph) = graph_lines costs graph
arc_lines (MaxFlow source sink graph) = graph_lines capacities graph
arc_lines (ShortestPaths graph) = graph_lines lengths graph
arc_lines _ = []

-- the instances are graph problems of the same kind, with the same NODES and the same supplies or terminals
abbrev pub SameHead : Instance → Instance → Type 0
SameHead (MinCostFlow s G) (MinCostFlow t H) = (s ≡ t) × (G.nodes ≡ H.nodes)
SameHead (MaxFlow a b G) (MaxFlow c d H) = (a ≡ c) × (b ≡ d) × (G.nodes ≡ H.nodes)
SameHead (ShortestPaths G) (ShortestPaths H) = G.nodes ≡ H.nodes
SameHead _ _ = ⊥

-- there is at least one part, each part has the head of I, and the arcs of I are the arcs of the parts, one part after
-- another
pub record AreParts (parts : List Instance) (I : Instance) : Type 0 where
  pub some : parts ≢ []
  pub heads : AllByRecursion (SameHead I) parts
  pub arcs : arc_lines I ≡ flat_map arc_lines parts

-- the lists have the same length, and instances at the same position pose the same problem
abbrev pub AreSame : List Instance → List Instance → Type 0
AreSame [] [] = Unit {0}
AreSame (I ∷ Is) (J ∷ Js) = IsSame I J × AreSame Is Js
AreSame _ _ = ⊥
