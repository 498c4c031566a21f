-- What a text describes. `min` and `max` problems are of the First DIMACS Challenge's network flow format; `sp` graphs
-- and their companions are of the Ninth DIMACS Challenge's shortest-path formats.
use Rattle.std.specs.Prelude.{ℕ, ℤ, pos, List, length}
use Rattle.dn_line.specs.declared.kind.Kind.{Kind}
use Rattle.dn_line.specs.declared.kind.Kind.TheVariants.{Min, Max, Sp, Ss, P2p, Co}
use Rattle.dn_arc_theory.specs.declared.arc.LengthArc.{LengthArc}
use Rattle.dn_arc_theory.specs.declared.arc.CapArc.{CapArc}
use Rattle.dn_arc_theory.specs.declared.arc.CostArc.{CostArc}

-- a graph has the nodes 1 to `nodes`, and its arcs in the order of the file, each with its ordered pair (SRC, DST)
pub record Graph (Arc : Type 0) : Type 0 where
  pub nodes : ℤ
  pub arcs : List ((ℤ × ℤ) × Arc)

-- an instance is of one of the six kinds
pub data Instance : Type 0 where
  -- `min`: the flow of each node whose flow is not 0, by ascending ID, and the graph
  MinCostFlow : List (ℤ × ℤ) → Graph CostArc → Instance
  -- `max`: the source, the sink and the graph
  MaxFlow : ℤ → ℤ → Graph CapArc → Instance
  -- `sp`: the graph
  ShortestPaths : Graph LengthArc → Instance
  -- `ss`: the IDs in the order of the file
  Sources : List ℤ → Instance
  -- `p2p`: the pairs of IDs in the order of the file
  Queries : List (ℤ × ℤ) → Instance
  -- `co`: X and Y of each ID, by ascending ID
  Coordinates : List (ℤ × (ℤ × ℤ)) → Instance

-- the kind of an instance
abbrev pub kind_of : Instance → Kind
kind_of (MinCostFlow supplies graph) = Min
kind_of (MaxFlow source sink graph) = Max
kind_of (ShortestPaths graph) = Sp
kind_of (Sources ids) = Ss
kind_of (Queries pairs) = P2p
kind_of (Coordinates points) = Co

-- NODES of a graph, and 0 for a companion
abbrev pub nodes_of : Instance → ℤ
nodes_of (MinCostFlow supplies graph) = graph.nodes
nodes_of (MaxFlow source sink graph) = graph.nodes
nodes_of (ShortestPaths graph) = graph.nodes
nodes_of (Sources ids) = pos 0
nodes_of (Queries pairs) = pos 0
nodes_of (Coordinates points) = pos 0

-- the number of arcs of a graph, or of items or points of a companion, which ARCS or K declares
abbrev pub size_of : Instance → ℕ
size_of (MinCostFlow supplies graph) = length graph.arcs
size_of (MaxFlow source sink graph) = length graph.arcs
size_of (ShortestPaths graph) = length graph.arcs
size_of (Sources ids) = length ids
size_of (Queries pairs) = length pairs
size_of (Coordinates points) = length points
