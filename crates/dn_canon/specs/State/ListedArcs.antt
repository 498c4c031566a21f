-- The arcs that the bundles of a table list.
use Rattle.std.specs.Prelude.{ℤ, List, [], ◌∷◌, ◌++◌, map}
use Rattle.dn_instance.specs.Instances.{Graph}

-- these arcs, each at the ordered pair p
abbrev pub placed : {Arc : Type 0} → ℤ × ℤ → List Arc → List ((ℤ × ℤ) × Arc)
placed p arcs = map (λ a. (p, a)) arcs

-- the listed arcs of all bundles, each at its pair, in the order of the table
abbrev pub listed_arcs : {B Arc : Type 0} → (B → List Arc) → List ((ℤ × ℤ) × B) → List ((ℤ × ℤ) × Arc)
listed_arcs lists [] = []
listed_arcs lists (e ∷ rest) = placed e.0 (lists e.1) ++ listed_arcs lists rest

-- the graph with these nodes and the listed arcs of the table
abbrev pub listed_graph : {B Arc : Type 0} → (B → List Arc) → ℤ → List ((ℤ × ℤ) × B) → Graph Arc
listed_graph lists nodes table = record { nodes = nodes; arcs = listed_arcs lists table }
