-- What the parts of a text so far hold: its `n` lines, and its counted lines.
use Rattle.std.specs.Prelude.{◌≡◌, ℕ, ◌<◌, ◌^◌, ℤ, pos, List, Bool, false, not, Option, Some, None}
use Rattle.std.specs.List.Sorted.{IsStrictlySortedBy}
use Rattle.std.specs.Map.{keys_of, lookup}
use Rattle.dn_line.specs.declared.kind.Kind.{Kind}
use Rattle.dn_line.specs.declared.kind.Kind.TheVariants as Kinds
use Rattle.dn_line.specs.declared.kind.Letter.TheVariants.{S, T}
use Rattle.dn_line.specs.declared.line.Line.{Line}
use Rattle.dn_arc_theory.specs.Kinds.{lengths, capacities, costs}
use Rattle.dn_arc_theory.specs.Pairs.{pair_cmp, same_pair}
use Rattle.dn_arc_theory.specs.State.Curves.{CurveNumbers}
use Rattle.dn_arc_theory.specs.declared.arc.Form.TheVariants.{One}
use Rattle.dn_bundle.specs.State.Listings.{least_arcs, total_arcs, curve_arcs}
use Rattle.dn_bundle.specs.declared.least.Least.{Least}
use Rattle.dn_bundle.specs.declared.total.Total.{Total}
use Rattle.dn_instance.specs.Items.{length_arc_in, cap_arc_in, cost_arc_in, point_in, query_in, source_in, supply_in, terminal_of}
use Rattle.dn_instance.specs.TextFaults.{has_point, has_supply}
use Rattle.dn_line.specs.LineTable.{is_companion}
use Rattle.dn_instance.specs.EntryCount.{entries_as}
use Rattle.dn_instance.specs.State.Bodies.{ListHolds, MapHolds, TableHolds}
use Rattle.dn_instance.specs.declared.body.Body.{Body}
use Rattle.dn_instance.specs.declared.body.Body.TheVariants as Bodies
use Rattle.dn_instance.specs.declared.node_descriptors.NodeDescriptors.{NodeDescriptors}

-- what the counted lines of a text make; bundles are in any order while lines arrive, and sorted by pair at the end
abbrev pub AnyBody : Type 0
AnyBody = Body (List ((ℤ × ℤ) × CurveNumbers)) (List ((ℤ × ℤ) × Total)) (List ((ℤ × ℤ) × Least))

-- the kind of the text
abbrev pub body_kind : {C T L : Type 0} → Body C T L → Kind
body_kind (Bodies.Min table) = Kinds.Min
body_kind (Bodies.Max table) = Kinds.Max
body_kind (Bodies.Sp table) = Kinds.Sp
body_kind (Bodies.Ss ids) = Kinds.Ss
body_kind (Bodies.P2p pairs) = Kinds.P2p
body_kind (Bodies.Co points) = Kinds.Co

-- the body holds what the counted ones of these items make
abbrev pub BodyHolds : AnyBody → List Line → Type 0
BodyHolds (Bodies.Min table) items = TableHolds costs cost_arc_in (curve_arcs One) table items
BodyHolds (Bodies.Max table) items = TableHolds capacities cap_arc_in total_arcs table items
BodyHolds (Bodies.Sp table) items = TableHolds lengths length_arc_in least_arcs table items
BodyHolds (Bodies.Ss ids) items = ListHolds source_in ids items
BodyHolds (Bodies.P2p pairs) items = ListHolds query_in pairs items
BodyHolds (Bodies.Co points) items = MapHolds point_in has_point points items

-- n is how many entries the items of the body make, if that is below 2^64
abbrev pub BodyCounts : AnyBody → ℕ → Type 0
BodyCounts b n =
    (items : List Line) → BodyHolds b items → entries_as (body_kind b) items < 2 ^ 64
    → n ≡ entries_as (body_kind b) items

-- the table is sorted by ascending pair, and has the bundles of the other table
pub record SortsTable {B : Type 0} (old new : List ((ℤ × ℤ) × B)) : Type 0 where
  pub ascending : IsStrictlySortedBy pair_cmp (keys_of new)
  pub kept : (p : ℤ × ℤ) → lookup (same_pair p) new ≡ lookup (same_pair p) old

-- the new body is the old one, with its bundles sorted by ascending pair
abbrev pub IsSorted : AnyBody → AnyBody → Type 0
IsSorted (Bodies.Min old) (Bodies.Min new) = SortsTable old new
IsSorted (Bodies.Max old) (Bodies.Max new) = SortsTable old new
IsSorted (Bodies.Sp old) (Bodies.Sp new) = SortsTable old new
IsSorted (Bodies.Ss old) (Bodies.Ss new) = new ≡ old
IsSorted (Bodies.P2p old) (Bodies.P2p new) = new ≡ old
IsSorted (Bodies.Co old) (Bodies.Co new) = new ≡ old
IsSorted _ _ = ⊥

-- the source and the sink, if a text of this kind has both; a kind without terminals has (0, 0)
abbrev pub terminals_of : Kind → Option ℤ → Option ℤ → Option (ℤ × ℤ)
terminals_of Kinds.Max (Some source) (Some sink) = Some (source, sink)
terminals_of Kinds.Max _ _ = None
terminals_of _ source sink = Some (pos 0, pos 0)

-- the `n` lines among these items make these descriptors
pub record DescriptorsHold (descriptors : NodeDescriptors) (items : List Line) : Type 0 where
  pub supplies : MapHolds supply_in has_supply descriptors.supplies items
  pub source_is : descriptors.source ≡ terminal_of S items
  pub sink_is : descriptors.sink ≡ terminal_of T items

-- the kind is known, and texts of this kind have arcs
abbrev pub is_graph : Option Kind → Bool
is_graph None = false
is_graph (Some kind) = not (is_companion kind)
