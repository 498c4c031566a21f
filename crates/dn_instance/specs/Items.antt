-- The instance that the items of a text make. `min` and `max` problems are of the First DIMACS Challenge, `sp` graphs
-- and their companions are of the Ninth. That a flow of 0 means the same as no node line is this project's profile.
use Rattle.std.specs.Prelude.{ℕ, ℤ, pos, List, [], ◌∷◌, length, Bool, true, false, cond, filter, filter_map, fold, Option, Some, None, option_and_then}
use Rattle.std.specs.Option.{option_or, option_map}
use Rattle.std.specs.Ordering.{int_cmp, int_eq}
use Rattle.std.specs.BTreeMap.{insert_entry}
use Rattle.dn_line.specs.declared.kind.Kind.{Kind}
use Rattle.dn_line.specs.declared.kind.Kind.TheVariants as Kinds
use Rattle.dn_line.specs.declared.kind.Letter.{Letter}
use Rattle.dn_line.specs.declared.kind.Letter.TheVariants.{S, T}
use Rattle.dn_line.specs.declared.line.Line.{Line}
use Rattle.dn_line.specs.declared.line.Line.TheVariants as Item
use Rattle.dn_arc_theory.specs.declared.arc.LengthArc.{LengthArc}
use Rattle.dn_arc_theory.specs.declared.arc.CapArc.{CapArc}
use Rattle.dn_arc_theory.specs.declared.arc.CostArc.{CostArc}
use Rattle.dn_instance.specs.Instances.{Graph, Instance, MinCostFlow, MaxFlow, ShortestPaths, Sources, Queries, Coordinates}

-- a problem line declares a kind, NODES, and the number of counted lines; NODES is 0 for a companion
pub record Problem : Type 0 where
  pub kind : Kind
  pub nodes : ℤ
  pub count : ℤ

-- the problem that a line declares, if it is a problem line
abbrev pub problem_in : Line → Option Problem
problem_in (Item.Graph kind nodes arcs) = Some (record { kind = kind; nodes = nodes; count = arcs })
problem_in (Item.Aux kind count) = Some (record { kind = kind; nodes = pos 0; count = count })
problem_in _ = None

-- the problem that the first problem line declares, if there is one
abbrev pub problem_of : List Line → Option Problem
problem_of [] = None
problem_of (i ∷ rest) = option_or (problem_in i) (problem_of rest)

-- the kind that the first problem line declares, if there is one
abbrev pub kind_known : List Line → Option Kind
kind_known items = option_map (λ (p : Problem). p.kind) (problem_of items)

-- ARCS and K count the arc lines of a graph, and the `s`, `q` and `v` lines of a companion
abbrev pub is_counted : Line → Bool
is_counted (Item.MinArc src dst low cap cost) = true
is_counted (Item.MaxArc src dst cap) = true
is_counted (Item.SpArc src dst length) = true
is_counted (Item.Source id) = true
is_counted (Item.Query first second) = true
is_counted (Item.Point id x y) = true
is_counted _ = false

-- the number of counted lines among the items
abbrev pub counted : List Line → ℕ
counted items = length (filter is_counted items)

-- the arc of an `sp` arc line, with its ordered pair (SRC, DST)
abbrev pub length_arc_in : Line → Option ((ℤ × ℤ) × LengthArc)
length_arc_in (Item.SpArc src dst length) = Some ((src, dst), record { length = length })
length_arc_in _ = None

-- the arc of a `max` arc line, with its ordered pair (SRC, DST)
abbrev pub cap_arc_in : Line → Option ((ℤ × ℤ) × CapArc)
cap_arc_in (Item.MaxArc src dst cap) = Some ((src, dst), record { cap = cap })
cap_arc_in _ = None

-- the arc of a `min` arc line, with its ordered pair (SRC, DST)
abbrev pub cost_arc_in : Line → Option ((ℤ × ℤ) × CostArc)
cost_arc_in (Item.MinArc src dst low cap cost) = Some ((src, dst), record { low = low; cap = cap; cost = cost })
cost_arc_in _ = None

-- the arcs of one kind among the items, in the order of the items
abbrev pub arcs_of : {Arc : Type 0} → (Line → Option ((ℤ × ℤ) × Arc)) → List Line → List ((ℤ × ℤ) × Arc)
arcs_of arc_in items = filter_map arc_in items

-- the entries by ascending key, where a later entry replaces an earlier one with the same key
abbrev pub by_key : {X : Type 0} → List (ℤ × X) → List (ℤ × X)
by_key entries = fold (λ m e. insert_entry int_cmp m e.0 e.1) [] entries

-- the ID and the flow of a `min` node line, unless the flow is 0
abbrev pub supply_in : Line → Option (ℤ × ℤ)
supply_in (Item.Supply id flow) = cond (int_eq flow (pos 0)) None (Some (id, flow))
supply_in _ = None

-- the flows other than 0, by ascending ID
abbrev pub supplies_of : List Line → List (ℤ × ℤ)
supplies_of items = by_key (filter_map supply_in items)

-- both letters are `s`, or both are `t`
abbrev pub same_letter : Letter → Letter → Bool
same_letter S S = true
same_letter T T = true
same_letter _ _ = false

-- the node that a `max` node line with this letter names
abbrev pub terminal_in : Letter → Line → Option ℤ
terminal_in letter (Item.Terminal id l) = cond (same_letter letter l) (Some id) None
terminal_in letter _ = None

-- the node that the first `max` node line with this letter names, if there is one
abbrev pub terminal_of : Letter → List Line → Option ℤ
terminal_of letter [] = None
terminal_of letter (i ∷ rest) = option_or (terminal_in letter i) (terminal_of letter rest)

-- the node that an `s` line names
abbrev pub source_in : Line → Option ℤ
source_in (Item.Source id) = Some id
source_in _ = None

-- the two nodes that a `q` line names
abbrev pub query_in : Line → Option (ℤ × ℤ)
query_in (Item.Query first second) = Some (first, second)
query_in _ = None

-- the ID of a `v` line with its X and Y
abbrev pub point_in : Line → Option (ℤ × (ℤ × ℤ))
point_in (Item.Point id x y) = Some (id, (x, y))
point_in _ = None

-- the graph with these NODES, and with the arcs of one kind among the items
abbrev pub graph_of : {Arc : Type 0} → (Line → Option ((ℤ × ℤ) × Arc)) → ℤ → List Line → Graph Arc
graph_of arc_in nodes items = record { nodes = nodes; arcs = arcs_of arc_in items }

-- a `max` instance has a source and a sink, and there is no instance if one of them is missing
abbrev pub max_flow : Option ℤ → Option ℤ → Graph CapArc → Option Instance
max_flow (Some source) (Some sink) graph = Some (MaxFlow source sink graph)
max_flow _ _ graph = None

-- the instance that the items of a problem of this kind with these NODES make, if there is one
abbrev pub instance_as : Kind → ℤ → List Line → Option Instance
instance_as Kinds.Min nodes items = Some (MinCostFlow (supplies_of items) (graph_of cost_arc_in nodes items))
instance_as Kinds.Max nodes items =
    max_flow (terminal_of S items) (terminal_of T items) (graph_of cap_arc_in nodes items)
instance_as Kinds.Sp nodes items = Some (ShortestPaths (graph_of length_arc_in nodes items))
instance_as Kinds.Ss nodes items = Some (Sources (filter_map source_in items))
instance_as Kinds.P2p nodes items = Some (Queries (filter_map query_in items))
instance_as Kinds.Co nodes items = Some (Coordinates (by_key (filter_map point_in items)))

-- the instance that the items make of the problem that they declare, if there is one
abbrev pub instance_of : List Line → Option Instance
instance_of items = option_and_then (λ (p : Problem). instance_as p.kind p.nodes items) (problem_of items)
