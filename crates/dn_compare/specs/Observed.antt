-- The values that a verdict compares, for the kinds of instances that have them (this project's profile).
use Rattle.std.specs.Prelude.{ℕ, suc, zero, ℤ, pos, List, Bool, true, false, cond, Option, Some, None, slice_get, unwrap_or}
use Rattle.std.specs.BTreeMap.{is_at}
use Rattle.std.specs.Map.{lookup}
use Rattle.std.specs.Ordering.{int_cmp}
use Rattle.dn_line.specs.declared.kind.Kind.{Kind}
use Rattle.dn_line.specs.declared.kind.Kind.TheVariants.{Ss, P2p}
use Rattle.dn_instance.specs.Instances.{Instance, MinCostFlow, MaxFlow, Coordinates, kind_of, size_of}

-- the value of a map at an ID, if it has one
abbrev pub value_of : {X : Type 0} → List (ℤ × X) → ℤ → Option X
value_of entries id = lookup (is_at (int_cmp id)) entries

-- a flow, or 0 if there is none
abbrev pub flow_or_zero : Option ℤ → ℤ
flow_or_zero flow = unwrap_or flow (pos 0)

-- the flow of a node of a `min` problem
abbrev pub flow_of : Instance → ℤ → Option ℤ
flow_of (MinCostFlow supplies graph) id = Some (flow_or_zero (value_of supplies id))
flow_of _ id = None

-- the source of a `max` problem
abbrev pub source_of : Instance → Option ℤ
source_of (MaxFlow source sink graph) = Some source
source_of _ = None

-- the sink of a `max` problem
abbrev pub sink_of : Instance → Option ℤ
sink_of (MaxFlow source sink graph) = Some sink
sink_of _ = None

-- companions of these kinds are lists of items; that of coordinates is a map
abbrev pub is_list : Kind → Bool
is_list Ss = true
is_list P2p = true
is_list _ = false

-- the number of items of a list
abbrev pub count_of : Instance → Option ℕ
count_of I = cond (is_list (kind_of I)) (Some (size_of I)) None

-- the item at an index, counted from 1
abbrev pub item_at : {X : Type 0} → List X → ℕ → Option X
item_at items zero = None
item_at items (suc i) = slice_get items i

-- the point of an ID
abbrev pub point_of : Instance → ℤ → Option (ℤ × ℤ)
point_of (Coordinates points) id = value_of points id
point_of _ id = None
