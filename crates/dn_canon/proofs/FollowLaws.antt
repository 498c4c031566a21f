-- Lemmas on the items of a valid instance: each follows the items before it without a fault, and the end has no fault.
use Rattle.std.proofs.Common.{◌≡◌, ◌≢◌, ℕ, ◌<◌, ◌≤◌, ◌^◌, ℤ, pos, ◌≤ℤ◌, List, [], ◌∷◌, length, false, map, Some, None, int_lt, refl, arith, length-append, Ok}
use Rattle.std.proofs.lemmas.Int.{ints}
use Rattle.std.proofs.lemmas.Bool.Decides.{nat_tests}
use Rattle.std.proofs.lemmas.List.{length-map}
use Rattle.std.specs.List.{AllByRecursion, list_any}
use Rattle.dn_num.proofs.ShortestLaws.{decimal_reads}
use Rattle.dn_line.specs.declared.kind.Kind.TheVariants as Kinds
use Rattle.dn_line.specs.declared.kind.Letter.TheVariants as Letters
use Rattle.dn_line.specs.declared.line.Line.{Line}
use Rattle.dn_line.specs.declared.line.Line.TheVariants as Item
use Rattle.dn_line.specs.declared.word.Keyword.TheVariants as Key
use Rattle.dn_line.specs.Words.{said}
use Rattle.dn_line.specs.State.Spelling.{Spells}
use Rattle.dn_line.specs.Faults.{first_fault}
use Rattle.dn_num.specs.Number.{number_read}
use Rattle.std.specs.Fmt.{signed_decimal}
use Rattle.dn_arc_theory.specs.Kinds.{capacities, costs}
use Rattle.dn_instance.specs.Instances.{Graph, Instance, MinCostFlow, MaxFlow, ShortestPaths, Sources, Queries, Coordinates, size_of}
use Rattle.dn_instance.specs.Validity.{IsNode, IsId, IsValidGraph, IsSupply, IsPoint, AreSupplies, ArePoints, IsValid}
use Rattle.dn_instance.specs.Items.{counted, cost_arc_in}
use Rattle.dn_instance.specs.TextFaults.{is_arc, has_supply, has_point, end_fault, order_tests, item_tests}
use Rattle.dn_canon.specs.Prints.{supply_row, terminal_row, source_row, query_row, point_row}
use Rattle.dn_canon.proofs.ItemLaws.{Follows, AllFollow, spells_by}
use Rattle.dn_canon.proofs.PartLaws.{all_at, fewer, follow_append, each_follow, no_items, none_counted, all_counted}
use Rattle.dn_canon.proofs.ArcItems.{node_fits, not_full, above_zero, node_in_range, max_item, sp_item, min_items, max_items, sp_items, counted_more, arcs_follow}
use Rattle.dn_canon.proofs.KeyLaws.{no_earlier}
use Rattle.dn_canon.proofs.InstanceItems.{head_row, head_item, supply_item, query_item, point_item, body_rows, body_of, differ}

-- items of which none is an arc contain no arc
no_arcs : {X : Type 0} (item : X → Line) → ((x : X) → is_arc (item x) ≡ false) → (xs : List X)
    → list_any is_arc (map item xs) ≡ false
no_arcs item h [] = refl
no_arcs item h (x ∷ xs) = rw (h x) (no_arcs item h xs)

-- the items of supplies follow the problem line
supplies_follow : (graph : Graph _) (supplies : List (ℤ × ℤ)) → IsValidGraph costs graph
    → AreSupplies graph.nodes supplies
    → AllFollow (Item.Graph Kinds.Min graph.nodes (pos (length graph.arcs)) ∷ []) (map supply_row supplies)
    (map supply_item supplies)
supplies_follow graph supplies v are = each_follow supply_row supply_item _ supplies (λ d x s.
    let is = all_at (IsSupply graph.nodes) s are.each in
    record {
      spells = spells_by refl (search (decimal_reads, node_fits graph.nodes, is, v)) refl;
      order = rw (no_arcs supply_item (λ y. refl) d);
      own = rw (node_in_range Kinds.Min is.node, no_earlier has_supply supply_item (λ k y. refl) s are.map);
    })

-- the source follows the problem line
source_follows : (graph : Graph _) (source : ℤ) → IsValidGraph capacities graph → IsNode graph.nodes source
    → Follows (Item.Graph Kinds.Max graph.nodes (pos (length graph.arcs)) ∷ []) (map said (terminal_row source Key.S))
    (Item.Terminal source Letters.S)
source_follows graph source v i = record {
  spells = spells_by refl (search (decimal_reads, node_fits graph.nodes)) refl;
  order = refl;
  own = rw (node_in_range Kinds.Max i);
}

-- the sink follows the problem line and the source
sink_follows : (graph : Graph _) (source sink : ℤ) → IsValidGraph capacities graph → IsNode graph.nodes sink
    → source ≢ sink
    → Follows (Item.Graph Kinds.Max graph.nodes (pos (length graph.arcs)) ∷ Item.Terminal source Letters.S ∷ [])
    (map said (terminal_row sink Key.T)) (Item.Terminal sink Letters.T)
sink_follows graph source sink v i n = record {
  spells = spells_by refl (search (decimal_reads, node_fits graph.nodes)) refl;
  order = refl;
  own = rw (node_in_range Kinds.Max i, differ source sink n);
}

-- the items of an `ss` text follow the problem line
sources_follow : (ids : List ℤ) → AllByRecursion IsId ids
    → AllFollow (Item.Aux Kinds.Ss (pos (length ids)) ∷ []) (map source_row ids) (map Item.Source ids)
sources_follow ids v = each_follow source_row Item.Source _ ids (λ d x s.
    let id = all_at IsId s v in
    record {
      spells = spells_by refl (search (decimal_reads, id)) refl;
      order = rw (all_counted Item.Source (λ y. refl) d, not_full _ _ (fewer s));
      own = rw (above_zero id.some);
    })

-- the items of a `p2p` text follow the problem line
queries_follow : (pairs : List (ℤ × ℤ)) → AllByRecursion (λ (q : ℤ × ℤ). IsId q.0 × IsId q.1) pairs
    → AllFollow (Item.Aux Kinds.P2p (pos (length pairs)) ∷ []) (map query_row pairs) (map query_item pairs)
queries_follow pairs v = each_follow query_row query_item _ pairs (λ d x s.
    let ids = all_at (λ (q : ℤ × ℤ). IsId q.0 × IsId q.1) s v in
    record {
      spells = spells_by refl (search (decimal_reads, ids)) refl;
      order = rw (all_counted query_item (λ y. refl) d, not_full _ _ (fewer s));
      own = rw (above_zero ids.0.some, above_zero ids.1.some);
    })

-- the items of a `co` text follow the problem line
points_follow : (points : List (ℤ × (ℤ × ℤ))) → ArePoints points
    → AllFollow (Item.Aux Kinds.Co (pos (length points)) ∷ []) (map point_row points) (map point_item points)
points_follow points v = each_follow point_row point_item _ points (λ d x s.
    let is = all_at IsPoint s v.each in
    record {
      spells = spells_by refl (search (decimal_reads, is)) refl;
      order = rw (all_counted point_item (λ y. refl) d, not_full _ _ (fewer s));
      own = rw (above_zero is.id.some, no_earlier has_point point_item (λ k y. refl) s v.map);
    })

-- the items of an instance follow its problem line
pub body_follows : (I : Instance) → IsValid I → AllFollow (head_item I ∷ []) (body_rows I) (body_of I)
body_follows (MinCostFlow supplies graph) v =
    follow_append _ (map supply_row supplies) _ (map supply_item supplies) _ (supplies_follow graph supplies v.0 v.1)
    (arcs_follow min_items graph (map supply_item supplies) v.0
    (no_items cost_arc_in supply_item (λ s. refl) supplies) (none_counted supply_item (λ s. refl) supplies))
body_follows (MaxFlow source sink graph) v = (
  source_follows graph source v.0 v.1.source_is,
  (
    sink_follows graph source sink v.0 v.1.sink_is v.1.differ,
    arcs_follow max_items graph (Item.Terminal source Letters.S ∷ Item.Terminal sink Letters.T ∷ []) v.0 refl refl,
  ),
)
body_follows (ShortestPaths graph) v = arcs_follow sp_items graph [] v refl refl
body_follows (Sources ids) v = sources_follow ids v
body_follows (Queries pairs) v = queries_follow pairs v
body_follows (Coordinates points) v = points_follow points v

-- a count below 2^63 is read, and is not below 0
count_reads : (n : ℕ) → n < 2 ^ 63 → (number_read (signed_decimal (pos n)) ≡ Ok (pos n)) × (pos 0 ≤ℤ pos n)
count_reads n h = (decimal_reads (pos n) (grind (arith, nat_tests)), omega (arith, ints))

-- the problem line of a valid instance comes first without a fault
pub head_follows : (I : Instance) → IsValid I → size_of I < 2 ^ 63 → Follows [] (map said (head_row I)) (head_item I)
head_follows I v few = record { spells = spelled I v few; order = none I; own = own I }
  where
    spelled : (I : Instance) → IsValid I → size_of I < 2 ^ 63 → Spells None (map said (head_row I)) (head_item I)
    spelled (MinCostFlow supplies graph) v few = spells_by refl (search (decimal_reads, count_reads)) refl
    spelled (MaxFlow source sink graph) v few = spells_by refl (search (decimal_reads, count_reads)) refl
    spelled I v few = spells_by refl (search (decimal_reads, count_reads)) refl

    none : (I : Instance) → first_fault (order_tests [] (map said (head_row I))) ≡ None
    none (Sources ids) = refl
    none I = refl

    own : (I : Instance) → first_fault (item_tests [] (Some (head_item I))) ≡ None
    own (Sources ids) = refl
    own I = refl

-- the number of counted items is the declared one
items_counted : (I : Instance) → counted (head_item I ∷ body_of I) ≡ size_of I
items_counted (MinCostFlow supplies graph) =
    counted_more min_items (map supply_item supplies) graph.arcs (none_counted supply_item (λ s. refl) supplies)
items_counted (MaxFlow source sink graph) = all_counted max_item max_items.counts graph.arcs
items_counted (ShortestPaths graph) = all_counted sp_item sp_items.counts graph.arcs
items_counted (Sources ids) = all_counted Item.Source (λ y. refl) ids
items_counted (Queries pairs) = all_counted query_item (λ y. refl) pairs
items_counted (Coordinates points) = all_counted point_item (λ y. refl) points

-- the end has no fault
pub end_clean : (I : Instance) → end_fault (head_item I ∷ body_of I) ≡ None
end_clean I = by_kind I (items_counted I)
  where
    enough : (c n : ℕ) → c ≡ n → int_lt (pos c) (pos n) ≡ false
    enough c n e = grind (arith, ints)

    by_kind : (I : Instance) → counted (head_item I ∷ body_of I) ≡ size_of I
        → end_fault (head_item I ∷ body_of I) ≡ None
    by_kind (Sources ids) e = rw (enough _ _ e)
    by_kind (MaxFlow source sink graph) e = rw (enough _ _ e)
    by_kind I e = rw (enough _ _ e)

-- there are at most as many counted items as lines
pub count_rows : (I : Instance) → size_of I ≤ length (body_rows I)
count_rows (MinCostFlow supplies graph) = simp (length-append, length-map) (omega arith)
count_rows (MaxFlow source sink graph) = simp length-map (omega arith)
count_rows I = simp length-map (omega arith)
