-- What a parsed instance holds, which instances it represents, and what a view shows of it.
use Rattle.std.specs.Prelude.{◌≡◌, ℕ, ℤ, pos, List, length}
use Rattle.dn_line.specs.declared.kind.Kind.{Kind}
use Rattle.dn_line.specs.declared.kind.Kind.TheVariants as Kinds
use Rattle.dn_arc_theory.specs.Kinds.{lengths, capacities, costs}
use Rattle.dn_bundle.specs.State.Listings.{least_arcs, total_arcs, curve_arcs}
use Rattle.dn_arc_theory.specs.declared.arc.Form.TheVariants.{One}
use Rattle.dn_arc_theory.specs.State.Curves.{CurveNumbers}
use Rattle.dn_bundle.specs.declared.least.Least.{Least}
use Rattle.dn_bundle.specs.declared.total.Total.{Total}
use Rattle.dn_instance.specs.Instances.{Instance, MinCostFlow, MaxFlow, ShortestPaths, Sources, Queries, Coordinates, nodes_of, size_of}
use Rattle.dn_instance.specs.Validity.{IsValid}
use Rattle.dn_table.specs.State.Tables.{TableStandsFor}
use Rattle.dn_instance.specs.State.TextParts.{AnyBody}
use Rattle.dn_instance.specs.declared.body.Body.TheVariants as Bodies
use Rattle.dn_instance.specs.declared.view.View.{View}
use Rattle.dn_instance.specs.declared.view.View.TheVariants as Views

-- bundles with their ordered pairs
abbrev pub Bundles : Type 0 → Type 0
Bundles B = List ((ℤ × ℤ) × B)

-- what a parsed instance holds, by kind: the flows or terminals and the bundles of a graph, or the items of a companion
pub data Contents : Type 0 where
  OfMin : List (ℤ × ℤ) → Bundles CurveNumbers → Contents
  OfMax : ℤ → ℤ → Bundles Total → Contents
  OfSp : Bundles Least → Contents
  OfSs : List ℤ → Contents
  OfP2p : List (ℤ × ℤ) → Contents
  OfCo : List (ℤ × (ℤ × ℤ)) → Contents

-- what a parsed instance holds: NODES, the number of counted lines, and the rest by kind
pub record Parsed : Type 0 where
  pub nodes : ℤ
  pub lines : ℤ
  pub contents : Contents

abbrev pub contents_kind : Contents → Kind
contents_kind (OfMin flows table) = Kinds.Min
contents_kind (OfMax source sink table) = Kinds.Max
contents_kind (OfSp table) = Kinds.Sp
contents_kind (OfSs ids) = Kinds.Ss
contents_kind (OfP2p pairs) = Kinds.P2p
contents_kind (OfCo points) = Kinds.Co

-- the number of ordered pairs that have a bundle, or 0 for a companion
abbrev pub pair_count : Contents → ℕ
pair_count (OfMin flows table) = length table
pair_count (OfMax source sink table) = length table
pair_count (OfSp table) = length table
pair_count (OfSs ids) = 0
pair_count (OfP2p pairs) = 0
pair_count (OfCo points) = 0

-- the contents represent the instance: the bundles represent its arcs, and everything else is equal
abbrev pub Shows : Contents → Instance → Type 0
Shows (OfMin flows table) (MinCostFlow supplies graph) =
    (flows ≡ supplies) × TableStandsFor costs (curve_arcs One) table graph.arcs
Shows (OfMax source sink table) (MaxFlow s t graph) =
    (source ≡ s) × (sink ≡ t) × TableStandsFor capacities total_arcs table graph.arcs
Shows (OfSp table) (ShortestPaths graph) = TableStandsFor lengths least_arcs table graph.arcs
Shows (OfSs ids) (Sources items) = ids ≡ items
Shows (OfP2p pairs) (Queries items) = pairs ≡ items
Shows (OfCo points) (Coordinates items) = points ≡ items
Shows _ _ = ⊥

-- the parsed instance represents this instance: NODES and the size are equal, and the contents represent it
pub record IsHeld (h : Parsed) (I : Instance) : Type 0 where
  pub nodes_are : h.nodes ≡ nodes_of I
  pub lines_are : h.lines ≡ pos (size_of I)
  pub shows : Shows h.contents I

-- what a parsed instance holds, given its flows, its source and sink, and its body
abbrev pub contents_of : List (ℤ × ℤ) → ℤ × ℤ → AnyBody → Contents
contents_of flows terminals (Bodies.Min table) = OfMin flows table
contents_of flows terminals (Bodies.Max table) = OfMax terminals.0 terminals.1 table
contents_of flows terminals (Bodies.Sp table) = OfSp table
contents_of flows terminals (Bodies.Ss ids) = OfSs ids.items
contents_of flows terminals (Bodies.P2p pairs) = OfP2p pairs.items
contents_of flows terminals (Bodies.Co points) = OfCo points.entries

-- what a view shows
abbrev pub viewed : View → Contents
viewed (Views.Min supplies table) = OfMin supplies.now.entries table.now
viewed (Views.Max source sink table) = OfMax source sink table.now
viewed (Views.Sp table) = OfSp table.now
viewed (Views.Ss items) = OfSs items.now
viewed (Views.P2p items) = OfP2p items.now
viewed (Views.Co points) = OfCo points.now.entries

-- `Is` holds of every valid instance that the parsed instance represents
abbrev pub OfHeld : Parsed → (Instance → Type 0) → Type 0
OfHeld held Is = (I : Instance) → IsValid I → IsHeld held I → Is I

-- `Are` holds of any two valid instances that the two parsed instances represent
abbrev pub OfBoth : Parsed → Parsed → (Instance → Instance → Type 0) → Type 0
OfBoth left right Are =
    (I J : Instance) → IsValid I → IsValid J → IsHeld left I → IsHeld right J → Are I J
