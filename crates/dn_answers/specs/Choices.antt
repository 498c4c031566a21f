-- Graphs in which the arcs of some ordered pairs are kept and all others are deleted (this project's profile).
use Rattle.std.specs.Prelude.{◌≡◌, ℤ, List, [], ◌∷◌, Bool, cond}
use Rattle.dn_arc_theory.specs.Pairs.{bundle}
use Rattle.dn_instance.specs.Instances.{Graph}

-- the arcs of the chosen ordered pairs
abbrev pub chosen_arcs : {Arc : Type 0} → (ℤ × ℤ → Bool) → List ((ℤ × ℤ) × Arc) → List ((ℤ × ℤ) × Arc)
chosen_arcs chosen [] = []
chosen_arcs chosen (a ∷ arcs) = cond (chosen a.0) (a ∷ chosen_arcs chosen arcs) (chosen_arcs chosen arcs)

-- the graph with the arcs of the chosen ordered pairs only
abbrev pub only : {Arc : Type 0} → (ℤ × ℤ → Bool) → Graph Arc → Graph Arc
only chosen G = record { nodes = G.nodes; arcs = chosen_arcs chosen G.arcs }

-- the graph has no self-loop: no arc leads from a node to itself
abbrev pub HasNoLoop : {Arc : Type 0} → Graph Arc → Type 0
HasNoLoop G = (v : ℤ) → bundle (v, v) G.arcs ≡ []
