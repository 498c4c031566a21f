-- What C gets of an instance beside its arcs, an item for each line.
use Rattle.std.specs.Prelude.{◌<◌, ◌^◌, ℤ, pos, List, [], ◌∷◌, map, drop, length, cond, nat_eq, Some, None}
use Rattle.dn_nodes.specs.State.Nodes.{after, Ascends}
use Rattle.dn_instance.specs.State.Helds.{Contents, OfMin, OfMax, OfSp, OfSs, OfP2p, OfCo}
use Rattle.dn_c.specs.declared.items.Item.{Item}
use Rattle.dn_c.specs.declared.items.ItemsLeft.{ItemsLeft}
use Rattle.dn_c.specs.declared.items.ItemsLeft.TheVariants as Lefts
use Rattle.dn_c.specs.declared.cursor.Cursor.{Cursor}

-- the flow of a node
abbrev pub flow_item : ℤ × ℤ → Item
flow_item e = record { id = e.0; a = e.1; b = pos 0 }

-- a point
abbrev pub point_item : ℤ × (ℤ × ℤ) → Item
point_item e = record { id = e.0; a = e.1.0; b = e.1.1 }

-- an ID of an `ss` text
abbrev pub id_item : ℤ → Item
id_item id = record { id = id; a = pos 0; b = pos 0 }

-- two IDs: a query, or the source and the sink
abbrev pub pair_item : ℤ × ℤ → Item
pair_item p = record { id = p.0; a = p.1; b = pos 0 }

-- what the instance holds beside its arcs: the flows that are not 0, the source with the sink, or the items or points
abbrev pub listed_items : Contents → List Item
listed_items (OfMin flows table) = map flow_item flows
listed_items (OfMax source sink table) = pair_item (source, sink) ∷ []
listed_items (OfSp table) = []
listed_items (OfSs ids) = map id_item ids
listed_items (OfP2p pairs) = map pair_item pairs
listed_items (OfCo points) = map point_item points

-- the items that are left
abbrev pub items_left : ItemsLeft → List Item
items_left (Lefts.Flows nodes) = map flow_item nodes
items_left (Lefts.Points nodes) = map point_item nodes
items_left (Lefts.Ids ids) = map id_item ids.now
items_left (Lefts.Pairs pairs) = map pair_item pairs.now
items_left (Lefts.Terminals (Some p)) = pair_item p ∷ []
items_left (Lefts.Terminals None) = []

-- the entries of a map that are left after a cursor between items: those after the last ID before it
abbrev pub nodes_left : {V : Type 0} → Cursor → List (ℤ × V) → List (ℤ × V)
nodes_left cursor es = cond (nat_eq cursor.within 0) es (after cursor.a es)

-- the items of an instance that are left after a cursor
abbrev pub left_items : Contents → Cursor → List Item
left_items (OfMin flows table) cursor = map flow_item (nodes_left cursor flows)
left_items (OfCo points) cursor = map point_item (nodes_left cursor points)
left_items contents cursor = drop cursor.pairs (listed_items contents)

-- the nodes of a map ascend, and a list has fewer than 2^64 elements
abbrev pub IsListed : Contents → Type 0
IsListed (OfMin flows table) = Ascends flows
IsListed (OfCo points) = Ascends points
IsListed contents = length (listed_items contents) < 2 ^ 64
