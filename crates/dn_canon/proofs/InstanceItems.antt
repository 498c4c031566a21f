-- The lines of an instance, and the items that they spell.
use Rattle.std.proofs.Common.{◌≡◌, ◌≢◌, inl, inr, ℕ, ℤ, pos, List, [], ◌∷◌, ◌++◌, length, false, map, Some, refl, append-nil}
use Rattle.std.proofs.lemmas.Bool.{cases_Bool}
use Rattle.std.proofs.lemmas.Bool.Decides.{Decides-int_eq}
use Rattle.std.proofs.lemmas.List.Elements.{filter_map-append}
use Rattle.std.specs.List.{AllByRecursion, filter_map}
use Rattle.std.specs.Ordering.{int_eq}
use Rattle.std.specs.Option.{option_map}
use Rattle.std.specs.Result.{result_unwrap_or}
use Rattle.dn_num.proofs.ShortestLaws.{decimal_reads}
use Rattle.dn_num.specs.Number.{number_read}
use Rattle.dn_line.specs.Names.{kind_name}
use Rattle.dn_line.specs.declared.kind.Kind.{Kind}
use Rattle.dn_line.specs.declared.kind.Kind.TheVariants as Kinds
use Rattle.dn_line.specs.declared.kind.Letter.TheVariants as Letters
use Rattle.dn_line.specs.declared.line.Line.{Line}
use Rattle.dn_line.specs.declared.line.Line.TheVariants as Item
use Rattle.dn_line.specs.declared.word.Keyword.{Keyword}
use Rattle.dn_line.specs.declared.word.Keyword.TheVariants as Key
use Rattle.dn_line.specs.Words.{keyword_text, said}
use Rattle.dn_line.specs.LineTable.{kind_named}
use Rattle.dn_arc_theory.specs.Kinds.{ArcKind, lengths, capacities, costs}
use Rattle.dn_instance.specs.Instances.{Graph, Instance, MinCostFlow, MaxFlow, ShortestPaths, Sources, Queries, Coordinates, kind_of, nodes_of}
use Rattle.dn_instance.specs.Validity.{IsSupply, AreSupplies, IsValid}
use Rattle.dn_instance.specs.Items.{cost_arc_in, supply_in, supplies_of, source_in, query_in, point_in, instance_as, instance_of, Problem, problem_in}
use Rattle.dn_canon.specs.Prints.{word_row, graph_row, companion_row, supply_row, terminal_row, arc_row, source_row, query_row, point_row, rows}
use Rattle.dn_sink.specs.Rows.{Cells}
use Rattle.dn_canon.proofs.RowLaws.{IsInk, AllWords, number_word, number_words}
use Rattle.dn_canon.proofs.ItemLaws.{IsHead}
use Rattle.dn_canon.proofs.PartLaws.{items_back, no_items, all_append, all_map}
use Rattle.dn_canon.proofs.ArcItems.{min_item, max_item, sp_item, min_items, max_items, sp_items, arcs_back, no_arc_more}
use Rattle.dn_canon.proofs.KeyLaws.{by_key_ascending}

-- the words of the problem line
abbrev pub head_row : Instance → Cells
head_row (MinCostFlow supplies graph) = graph_row Kinds.Min graph.nodes (length graph.arcs)
head_row (MaxFlow source sink graph) = graph_row Kinds.Max graph.nodes (length graph.arcs)
head_row (ShortestPaths graph) = graph_row Kinds.Sp graph.nodes (length graph.arcs)
head_row (Sources ids) = companion_row Kinds.Ss (length ids)
head_row (Queries pairs) = companion_row Kinds.P2p (length pairs)
head_row (Coordinates points) = companion_row Kinds.Co (length points)

abbrev pub head_item : Instance → Line
head_item (MinCostFlow supplies graph) = Item.Graph Kinds.Min graph.nodes (pos (length graph.arcs))
head_item (MaxFlow source sink graph) = Item.Graph Kinds.Max graph.nodes (pos (length graph.arcs))
head_item (ShortestPaths graph) = Item.Graph Kinds.Sp graph.nodes (pos (length graph.arcs))
head_item (Sources ids) = Item.Aux Kinds.Ss (pos (length ids))
head_item (Queries pairs) = Item.Aux Kinds.P2p (pos (length pairs))
head_item (Coordinates points) = Item.Aux Kinds.Co (pos (length points))

-- the item of a supply
abbrev pub supply_item : ℤ × ℤ → Line
supply_item s = Item.Supply s.0 s.1

-- the item of a query
abbrev pub query_item : ℤ × ℤ → Line
query_item q = Item.Query q.0 q.1

-- the item of a point
abbrev pub point_item : ℤ × (ℤ × ℤ) → Line
point_item p = Item.Point p.0 p.1.0 p.1.1

-- the words of the lines after the problem line
abbrev pub body_rows : Instance → List Cells
body_rows (MinCostFlow supplies graph) = map supply_row supplies ++ map (arc_row costs) graph.arcs
body_rows (MaxFlow source sink graph) =
    terminal_row source Key.S ∷ terminal_row sink Key.T ∷ map (arc_row capacities) graph.arcs
body_rows (ShortestPaths graph) = map (arc_row lengths) graph.arcs
body_rows (Sources ids) = map source_row ids
body_rows (Queries pairs) = map query_row pairs
body_rows (Coordinates points) = map point_row points

-- the items after the problem line
abbrev pub body_of : Instance → List Line
body_of (MinCostFlow supplies graph) = map supply_item supplies ++ map min_item graph.arcs
body_of (MaxFlow source sink graph) =
    Item.Terminal source Letters.S ∷ Item.Terminal sink Letters.T ∷ map max_item graph.arcs
body_of (ShortestPaths graph) = map sp_item graph.arcs
body_of (Sources ids) = map Item.Source ids
body_of (Queries pairs) = map query_item pairs
body_of (Coordinates points) = map point_item points

-- the lines of an instance are its problem line and the lines after it
pub rows_are : (I : Instance) → rows I ≡ head_row I ∷ body_rows I
rows_are (Sources ids) = refl
rows_are I = refl

-- the problem line of a graph consists of words
graph_words : (k : Kind) (nodes : ℤ) (n : ℕ) → IsInk (kind_name k) → AllWords (graph_row k nodes n)
graph_words k nodes n h = ((refl, tt), (h, (number_word nodes, (number_word (pos n), tt))))

-- the problem line of a companion consists of words
companion_words : (k : Kind) (n : ℕ) → IsInk (kind_name k) → AllWords (companion_row k n)
companion_words k n h = ((refl, tt), ((refl, (refl, (refl, tt))), ((refl, (refl, tt)), (h, (number_word (pos n), tt)))))

-- the lines of a letter and numbers consist of words
number_rows : {X : Type 0} (row : X → Cells) (key : Keyword) (numbers : X → List ℤ)
    → ((x : X) → row x ≡ word_row key (numbers x)) → IsInk (keyword_text key) → (xs : List X)
    → AllByRecursion AllWords (map row xs)
number_rows row key numbers is h = all_map AllWords row (λ x. rw (is x) (h, number_words (numbers x)))

-- the lines of arcs consist of words
arc_words : {Arc : Type 0} (kind : ArcKind Arc) (arcs : List ((ℤ × ℤ) × Arc))
    → AllByRecursion AllWords (map (arc_row kind) arcs)
arc_words kind = number_rows (arc_row kind) Key.A (λ a. a.0.0 ∷ a.0.1 ∷ kind.numbers a.1) (λ a. refl) (refl, tt)

-- each line after the problem line consists of words
pub body_words : (I : Instance) → AllByRecursion AllWords (body_rows I)
body_words (MinCostFlow supplies graph) =
    all_append AllWords (map supply_row supplies) _
    (number_rows supply_row Key.N (λ s. s.0 ∷ s.1 ∷ []) (λ s. refl) (refl, tt) supplies) (arc_words costs graph.arcs)
body_words (MaxFlow source sink graph) = (
  ((refl, tt), (number_word source, ((refl, tt), tt))),
  (((refl, tt), (number_word sink, ((refl, tt), tt))), arc_words capacities graph.arcs),
)
body_words (ShortestPaths graph) = arc_words lengths graph.arcs
body_words (Sources ids) = number_rows source_row Key.S (λ i. i ∷ []) (λ i. refl) (refl, tt) ids
body_words (Queries pairs) = number_rows query_row Key.Q (λ q. q.0 ∷ q.1 ∷ []) (λ q. refl) (refl, tt) pairs
body_words (Coordinates points) =
    number_rows point_row Key.V (λ p. p.0 ∷ p.1.0 ∷ p.1.1 ∷ []) (λ p. refl) (refl, tt) points

-- the problem line names the kind
pub head_is : (I : Instance) → IsHead (head_row I) (head_item I) (kind_of I)
head_is I = record { words = words I; kind = kind I; declares = declares I }
  where
    words : (I : Instance) → AllWords (head_row I)
    words (MinCostFlow supplies graph) = graph_words Kinds.Min graph.nodes _ (refl, (refl, (refl, tt)))
    words (MaxFlow source sink graph) = graph_words Kinds.Max graph.nodes _ (refl, (refl, (refl, tt)))
    words (ShortestPaths graph) = graph_words Kinds.Sp graph.nodes _ (refl, (refl, tt))
    words (Sources ids) = companion_words Kinds.Ss _ (refl, (refl, tt))
    words (Queries pairs) = companion_words Kinds.P2p _ (refl, (refl, (refl, tt)))
    words (Coordinates points) = companion_words Kinds.Co _ (refl, (refl, tt))

    kind : (I : Instance) → kind_named (map said (head_row I)) ≡ Some (kind_of I)
    kind (Sources ids) = refl
    kind I = refl

    declares : (I : Instance) → option_map (λ (p : Problem). p.kind) (problem_in (head_item I)) ≡ Some (kind_of I)
    declares (Sources ids) = refl
    declares I = refl

-- NODES in the words of a problem line; 0 for a companion
abbrev pub nodes_in : Cells → ℤ
nodes_in (p ∷ name ∷ nodes ∷ arcs ∷ []) = result_unwrap_or (number_read nodes) (pos 0)
nodes_in _ = pos 0

-- NODES of the problem line is that of the instance
pub nodes_back : (I : Instance) → IsValid I → nodes_in (head_row I) ≡ nodes_of I
nodes_back (MinCostFlow supplies graph) v = rw (decimal_reads graph.nodes v.0.nodes_fit)
nodes_back (MaxFlow source sink graph) v = rw (decimal_reads graph.nodes v.0.nodes_fit)
nodes_back (ShortestPaths graph) v = rw (decimal_reads graph.nodes v.nodes_fit)
nodes_back I v = refl

-- different numbers compare as different
pub differ : (a b : ℤ) → a ≢ b → int_eq a b ≡ false
differ a b n = elim (cases_Bool (int_eq a b)) [ inl is ↦ absurd (n ((Decides-int_eq a b).0 is)) | inr is_not ↦ is_not ]

-- the supplies of the items of supplies
supplies_read : (nodes : ℤ) (supplies : List (ℤ × ℤ)) → AllByRecursion (IsSupply nodes) supplies
    → filter_map supply_in (map supply_item supplies) ≡ supplies
supplies_read nodes [] h = refl
supplies_read nodes (s ∷ rest) h = rw (differ s.1 (pos 0) h.0.some, supplies_read nodes rest h.1)

-- the supplies of the items are the supplies
supplies_back : (graph : Graph _) (supplies : List (ℤ × ℤ)) → AreSupplies graph.nodes supplies
    → supplies_of (map supply_item supplies ++ map min_item graph.arcs) ≡ supplies
supplies_back graph supplies v =
    rw (
      filter_map-append supply_in (map supply_item supplies) (map min_item graph.arcs),
      supplies_read graph.nodes supplies v.each,
      no_items supply_in min_item min_items.no_supply graph.arcs,
      append-nil,
    ) (by_key_ascending supplies v.map)

-- the items after the problem line make the instance
pub body_makes : (I : Instance) → IsValid I → instance_as (kind_of I) (nodes_of I) (body_of I) ≡ Some I
body_makes (MinCostFlow supplies graph) v =
    rw (
      supplies_back graph supplies v.1,
      no_arc_more min_items (map supply_item supplies) graph.arcs
          (no_items cost_arc_in supply_item (λ s. refl) supplies),
    )
body_makes (MaxFlow source sink graph) v = rw (arcs_back max_items graph.arcs)
body_makes (ShortestPaths graph) v = rw (arcs_back sp_items graph.arcs)
body_makes (Sources ids) v = rw (items_back source_in Item.Source (λ i. refl) ids)
body_makes (Queries pairs) v = rw (items_back query_in query_item (λ q. refl) pairs)
body_makes (Coordinates points) v =
    rw (items_back point_in point_item (λ p. refl) points, by_key_ascending points v.map)

-- all items make the instance
pub items_make : (I : Instance) → IsValid I → instance_of (head_item I ∷ body_of I) ≡ Some I
items_make (Sources ids) v = body_makes (Sources ids) v
items_make I v = body_makes I v
