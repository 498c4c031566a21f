-- The arcs and items of an instance as C has them, and what walks over a parsed instance copy.
use Rattle.std.specs.Prelude.{◌≡◌, ◌<◌, pos, List, [], ◌∷◌, map, take, length, flat_map}
use Rattle.dn_arc_theory.specs.Kinds.{costs, capacities, lengths}
use Rattle.dn_arc_theory.specs.declared.arc.Form.{Form}
use Rattle.dn_bundle.specs.State.Listings.{least_arcs, total_arcs, curve_arcs}
use Rattle.dn_instance.specs.Instances.{Instance, MinCostFlow, MaxFlow, ShortestPaths, Sources, Queries, Coordinates}
use Rattle.dn_instance.specs.State.Helds.{Contents, OfMin, OfMax, OfSp}
use Rattle.dn_c.specs.State.Items.{flow_item, point_item, id_item, pair_item, left_items}
use Rattle.dn_c.specs.State.Outputs.{CopiesGraph, CountsGraph}
use Rattle.dn_c.specs.State.Cursors.{cost_at, cap_at, length_at}
use Rattle.dn_c.specs.State.Rows.{rows_by}
use Rattle.dn_c.specs.State.Walks.{IsLeftAfter}
use Rattle.dn_c.specs.declared.arcs.Arc.{Arc}
use Rattle.dn_c.specs.declared.items.Item.{Item}
use Rattle.dn_c.specs.declared.cursor.Cursor.{Cursor}
use Rattle.dn_c.specs.declared.status.Count.{Count}

-- the arcs of an instance in their order, each with the numbers of its line; a companion has none
abbrev pub instance_rows : Instance → List Arc
instance_rows (MinCostFlow supplies graph) = rows_by costs.numbers graph.arcs
instance_rows (MaxFlow source sink graph) = rows_by capacities.numbers graph.arcs
instance_rows (ShortestPaths graph) = rows_by lengths.numbers graph.arcs
instance_rows (Sources ids) = []
instance_rows (Queries pairs) = []
instance_rows (Coordinates points) = []

-- what an instance has beside its arcs: the flows that are not 0, the source with the sink, or the items or points
abbrev pub instance_items : Instance → List Item
instance_items (MinCostFlow supplies graph) = map flow_item supplies
instance_items (MaxFlow source sink graph) = pair_item (source, sink) ∷ []
instance_items (ShortestPaths graph) = []
instance_items (Sources ids) = map id_item ids
instance_items (Queries pairs) = map pair_item pairs
instance_items (Coordinates points) = map point_item points

-- the cursor of zeros
abbrev pub first_cursor : Cursor
first_cursor = record { pairs = 0; within = 0; a = pos 0; b = pos 0; c = pos 0 }

-- these arcs of the contents in this form are left after the cursor; of a companion none are
abbrev pub IsLeftOf : Form → Contents → Cursor → List Arc → Type 0
IsLeftOf form (OfMin flows table) cursor rows = IsLeftAfter costs.numbers (curve_arcs form) cost_at table cursor rows
IsLeftOf form (OfMax source sink table) cursor rows =
    IsLeftAfter capacities.numbers total_arcs cap_at table cursor rows
IsLeftOf form (OfSp table) cursor rows = IsLeftAfter lengths.numbers least_arcs length_at table cursor rows
IsLeftOf form _ cursor rows = rows ≡ []

-- a call that copies arcs: `out` before and after it, the cursor after it, and what it returned
pub record Call : Type 0 where
  pub old : List Arc
  pub new : List Arc
  pub cursor : Cursor
  pub result : Count

-- the arcs that the call copied
abbrev pub copied : Call → List Arc
copied call = take call.result.count call.new

-- each call does this from the cursor after the call before it, and only the last one must copy fewer arcs than there
-- is room for
abbrev pub Walks : (Cursor → Call → Type 0) → Cursor → List Call → Type 0
Walks Copies cursor [] = ⊥
Walks Copies cursor (call ∷ []) = Copies cursor call × call.result.count < length call.old
Walks Copies cursor (call ∷ next ∷ rest) = Copies cursor call × Walks Copies call.cursor (next ∷ rest)

-- each call copies arcs of the contents in this form from the cursor after the call before it, until one copies fewer
-- than there is room for
abbrev pub WalksGraph : Form → Contents → Cursor → List Call → Type 0
WalksGraph form contents =
    Walks
    (λ cursor call. CopiesGraph form contents cursor call.cursor call.old call.new call.result)

-- calls get the arcs and the items of this instance out of the contents in this form
pub record GivesOut (form : Form) (contents : Contents) (J : Instance) : Type 0 where
  -- its arcs are left after the cursor of zeros
  pub first : IsLeftOf form contents first_cursor (instance_rows J)
  -- and calls from there on, until one copies fewer arcs than there is room for, copy them
  pub walk : (calls : List Call) → WalksGraph form contents first_cursor calls
      → flat_map copied calls ≡ instance_rows J
  -- dnorm_arc_count tells how many they are, if there are fewer than 2^64
  pub count : (result : Count) → CountsGraph form contents result → result.code ≡ 0
      → result.count ≡ length (instance_rows J)
  -- its items are left after the cursor of zeros, which each call of dnorm_items moves behind what it copies
  pub items : left_items contents first_cursor ≡ instance_items J
