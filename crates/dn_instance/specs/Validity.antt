-- Which instances a text may describe (the ranges are this project's profile).
use Rattle.std.specs.Prelude.{◌≢◌, ◌-◌, ◌^◌, ℤ, pos, ◌≤ℤ◌, List, IsTrue}
use Rattle.std.specs.List.{AllByRecursion}
use Rattle.std.specs.List.Sorted.{IsStrictlySortedBy}
use Rattle.std.specs.Map.{keys_of}
use Rattle.std.specs.Ordering.{int_cmp}
use Rattle.dn_num.specs.Number.{fits}
use Rattle.dn_arc_theory.specs.Kinds.{ArcKind, costs, capacities, lengths}
use Rattle.dn_arc_theory.specs.Pairs.{bundle}
use Rattle.dn_instance.specs.Instances.{Graph, Instance, MinCostFlow, MaxFlow, ShortestPaths, Sources, Queries, Coordinates}

-- the number fits 64 signed bits
abbrev pub Fits : ℤ → Type 0
Fits n = IsTrue (fits n)

-- v is a node of a graph with this many nodes: it is in the range 1 to NODES
pub record IsNode (nodes v : ℤ) : Type 0 where
  pub some : pos 1 ≤ℤ v
  pub most : v ≤ℤ nodes

-- v is an ID of a companion: it is at least 1, and fits 64 signed bits
pub record IsId (v : ℤ) : Type 0 where
  pub some : pos 1 ≤ℤ v
  pub fits : Fits v

-- SRC and DST of the arc are nodes of the graph, a problem of this kind may have the arc, and its numbers fit 64 signed
-- bits
pub record IsPlaced {Arc : Type 0} (kind : ArcKind Arc) (nodes : ℤ) (arc : (ℤ × ℤ) × Arc) : Type 0 where
  pub tail : IsNode nodes arc.0.0
  pub head : IsNode nodes arc.0.1
  pub is_arc : kind.IsArc arc.1
  pub numbers : AllByRecursion Fits (kind.numbers arc.1)

-- NODES is at least 0 and fits 64 signed bits, each arc may occur in the graph, and the CAPs of each ordered pair sum
-- to at most 2^63 - 1
pub record IsValidGraph {Arc : Type 0} (kind : ArcKind Arc) (graph : Graph Arc) : Type 0 where
  pub some_nodes : pos 0 ≤ℤ graph.nodes
  pub nodes_fit : Fits graph.nodes
  pub placed : AllByRecursion (IsPlaced kind graph.nodes) graph.arcs
  pub capacities : (p : ℤ × ℤ) → kind.capacity (bundle p graph.arcs) ≤ℤ pos (2 ^ 63 - 1)

-- the flow is that of a node of the graph, is not 0, and fits 64 signed bits
pub record IsSupply (nodes : ℤ) (supply : ℤ × ℤ) : Type 0 where
  pub node : IsNode nodes supply.0
  pub some : supply.1 ≢ pos 0
  pub fits : Fits supply.1

-- the point has an ID of a companion, and X and Y fit 64 signed bits
pub record IsPoint (point : ℤ × (ℤ × ℤ)) : Type 0 where
  pub id : IsId point.0
  pub x : Fits point.1.0
  pub y : Fits point.1.1

-- the keys are strictly ascending, so each key occurs once
abbrev pub IsMap : {X : Type 0} → List (ℤ × X) → Type 0
IsMap entries = IsStrictlySortedBy int_cmp (keys_of entries)

-- the flows of a `min` problem are valid, and are sorted by strictly ascending ID, so each node has at most one
pub record AreSupplies (nodes : ℤ) (supplies : List (ℤ × ℤ)) : Type 0 where
  pub map : IsMap supplies
  pub each : AllByRecursion (IsSupply nodes) supplies

-- the source and the sink are two different nodes of the graph
pub record AreTerminals (nodes source sink : ℤ) : Type 0 where
  pub source_is : IsNode nodes source
  pub sink_is : IsNode nodes sink
  pub differ : source ≢ sink

-- the points of a companion are valid, and are sorted by strictly ascending ID, so each ID has at most one
pub record ArePoints (points : List (ℤ × (ℤ × ℤ))) : Type 0 where
  pub map : IsMap points
  pub each : AllByRecursion IsPoint points

-- a text may describe this instance: its graph and its supplies or terminals are valid, or its IDs or points are valid
abbrev pub IsValid : Instance → Type 0
IsValid (MinCostFlow supplies graph) = IsValidGraph costs graph × AreSupplies graph.nodes supplies
IsValid (MaxFlow source sink graph) = IsValidGraph capacities graph × AreTerminals graph.nodes source sink
IsValid (ShortestPaths graph) = IsValidGraph lengths graph
IsValid (Sources ids) = AllByRecursion IsId ids
IsValid (Queries pairs) = AllByRecursion (λ (q : ℤ × ℤ). IsId q.0 × IsId q.1) pairs
IsValid (Coordinates points) = ArePoints points
