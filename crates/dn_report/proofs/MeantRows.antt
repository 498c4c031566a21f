-- Lemmas that the lines of a parsed instance are right for the instance that it represents.
use Rattle.std.proofs.Common.{◌≡◌, ◌↔◌, ℤ, pos, List, [], ◌∷◌, length, map, Option, Some, None, IfSome, inl, refl, ap, arith, inr}
use Rattle.std.proofs.lemmas.Int.{ints}
use Rattle.std.specs.List.{AllByRecursion}
use Rattle.std.specs.Map.{keys_of, lookup}
use Rattle.std.specs.Option.{option_map}
use Rattle.std.proofs.lemmas.Bool.{cases_Bool}
use Rattle.dn_line.specs.declared.kind.Kind.{Kind}
use Rattle.dn_line.specs.declared.kind.Kind.TheVariants as Kinds
use Rattle.dn_arc_theory.specs.Kinds.{ArcKind, lengths, capacities, costs}
use Rattle.dn_arc_theory.specs.State.CanonArcs.{AreCanonArcsOf}
use Rattle.dn_arc_theory.proofs.CostKindLaws.{cost_kind}
use Rattle.dn_arc_theory.proofs.CanonsLaws.{count_costs, same_canon}
use Rattle.dn_bundle.specs.State.Listings.{least_arcs, total_arcs, curve_arcs}
use Rattle.dn_arc_theory.specs.declared.arc.Form.TheVariants.{One}
use Rattle.dn_arc_theory.specs.Pairs.{bundle, same_pair}
use Rattle.dn_table.specs.State.Tables.{TableStandsFor, AreArcs}
use Rattle.dn_instance.specs.State.Helds.{Bundles, Contents, Parsed, IsHeld, OfMin, OfMax, OfSp, OfSs, OfP2p, OfCo, Shows}
use Rattle.dn_instance.specs.Instances.{Graph, Instance, MinCostFlow, MaxFlow, ShortestPaths, Sources, Queries, Coordinates, nodes_of, size_of}
use Rattle.dn_instance.specs.Validity.{IsPlaced, IsValid}
use Rattle.dn_sink.specs.Rows.{Cells, text_of}
use Rattle.dn_report.specs.Shows.{AreLengthWords, total_words, cost_words, pair_row, AreGraphRows, shown_graph, IsShown, supply_rows, terminal_rows}
use Rattle.dn_report.specs.State.ListedRows.{length_words, listed_rows, contents_rows, held_rows}

-- what holds of all arcs holds of the arcs of each pair
bundle_all : {Arc : Type 0} (P : Arc → Type 0) (p : ℤ × ℤ) (arcs : List ((ℤ × ℤ) × Arc))
    → AllByRecursion (λ a. P a.1) arcs → AllByRecursion P (bundle p arcs)
bundle_all P p [] all = tt
bundle_all P p (a ∷ rest) all =
    let more = bundle_all P p rest all.1 in
    elim (cases_Bool (same_pair p a.0)) [ inl e ↦ rw e (all.0, more) | inr e ↦ rw e more ]

-- the arcs of a valid graph are arcs of its kind
are_arcs : {Arc : Type 0} (kind : ArcKind Arc) (nodes : ℤ) (arcs : List ((ℤ × ℤ) × Arc))
    → AllByRecursion (IsPlaced kind nodes) arcs → AreArcs kind arcs
are_arcs kind nodes [] all = tt
are_arcs kind nodes (a ∷ rest) all = (all.0.is_arc, are_arcs kind nodes rest all.1)

-- words on the arcs that a bundle lists are right for the arcs that it represents, if these mean something
abbrev Says : {Arc : Type 0} → ArcKind Arc → (List Arc → Cells → Type 0) → (List Arc → Cells) → Type 0
Says {Arc} kind AreWords words =
    (listed arcs : List Arc) → AreCanonArcsOf kind listed arcs → AllByRecursion kind.IsArc arcs
    → (kind.Same arcs [] → ⊥) → AreWords arcs (words listed)

module _ {B Arc : Type 0} (kind : ArcKind Arc) (AreWords : List Arc → Cells → Type 0) (words : List Arc → Cells)
    (lists : B → List Arc) where
  -- the words of each pair
  abbrev entries_listed : Bundles B → List ((ℤ × ℤ) × Cells)
  entries_listed table = map (λ e. (e.0, words (lists e.1))) table

  keys_listed : (table : Bundles B) → keys_of (entries_listed table) ≡ keys_of table
  keys_listed [] = refl
  keys_listed (e ∷ es) = ap (λ l. e.0 ∷ l) (keys_listed es)

  rows_listed : (table : Bundles B) → listed_rows words lists table ≡ map (λ e. pair_row e.0 e.1) (entries_listed table)
  rows_listed [] = refl
  rows_listed (e ∷ es) = ap (λ l. pair_row e.0 (words (lists e.1)) ∷ l) (rows_listed es)

  found_listed : (p : ℤ × ℤ) (table : Bundles B)
      → lookup (same_pair p) (entries_listed table) ≡ option_map (λ b. words (lists b)) (lookup (same_pair p) table)
  found_listed p [] = refl
  found_listed p (e ∷ es) =
      rw (found_listed p es) (elim (cases_Bool (same_pair p e.0)) [ inl t ↦ rw t | inr t ↦ rw t ])

  none_both : (o : Option Cells) (u : Option B) → o ≡ option_map (λ b. words (lists b)) u → (o ≡ None) ↔ (u ≡ None)
  none_both o None e = (λ h. refl, λ h. e)
  none_both o (Some b) e = (λ h. cc, λ h. cc)

  -- the lines of a parsed graph are right for the graph
  graph_shown : Says kind AreWords words
      → (name : Kind) (nodes lines : ℤ) (besides more : List Cells) (table : Bundles B) (graph : Graph Arc)
      → nodes ≡ graph.nodes → lines ≡ pos (length graph.arcs) → besides ≡ more
      → TableStandsFor kind lists table graph.arcs
      → AllByRecursion (IsPlaced kind graph.nodes) graph.arcs
      → AreGraphRows kind AreWords name graph more
      (shown_graph name nodes lines besides (listed_rows words lists table))
  graph_shown says name nodes lines besides more table graph e f g stands placed = record {
    pairs = listed_rows words lists table;
    are_pairs = record {
      entries = entries_listed table;
      ascending = rw (keys_listed table) stands.ascending;
      meant = λ p.
          let both = none_both _ (lookup (same_pair p) table) (found_listed p table) in
          (λ h. (stands.lists_them.absent p).0 (both.0 h), λ h. both.1 ((stands.lists_them.absent p).1 h));
      words = λ p. rw (found_listed p table) (each_words p (lookup (same_pair p) table) refl);
      rows_are = rows_listed table;
    };
    rows_are = rw (e, f, g);
  }
    where
      each_words : (p : ℤ × ℤ) (o : Option B) → lookup (same_pair p) table ≡ o
          → IfSome (option_map (λ b. words (lists b)) o) (AreWords (bundle p graph.arcs))
      each_words p None e = tt
      each_words p (Some b) e =
          says (lists b) (bundle p graph.arcs) (rw e at (stands.lists_them.stands p))
          (bundle_all kind.IsArc p graph.arcs (are_arcs kind graph.nodes graph.arcs placed))
          (λ none. cc (e, (stands.lists_them.absent p).1 none))

-- `sp`: the printed length is the least one
length_says : Says lengths AreLengthWords length_words
length_says [] arcs stands are some = absurd (some (record { there = stands.same.back; back = stands.same.there }))
length_says (a ∷ []) arcs stands are some =
    (a.length, stands.same.there a.length (record { has = inl refl; least = (omega (arith, ints), tt) }), refl)
length_says (a ∷ b ∷ rest) arcs stands are some = absurd stands.canonical

-- `max`: the printed total is the sum of the CAPs of the represented arcs
total_says : Says capacities (λ arcs row. row ≡ total_words arcs) total_words
total_says listed arcs stands are some = rw stands.same.is

-- `min`: the printed numbers are those of the represented arcs
cost_says : Says costs (λ arcs row. row ≡ cost_words arcs) cost_words
cost_says listed arcs stands are some =
    let same = same_canon listed arcs (cost_kind.canon_arcs One listed stands.canonical) are stands.same in
    rw (same.units, same.cost, count_costs listed, count_costs arcs, same.steps)

-- the lines of parsed contents are right for the instance
contents_shown : (nodes lines : ℤ) (x : Contents) (I : Instance) → nodes ≡ nodes_of I → lines ≡ pos (size_of I)
    → Shows x I → IsValid I → IsShown I (text_of (contents_rows nodes lines x))
contents_shown nodes lines (OfMin flows table) (MinCostFlow supplies graph) e f shows valid = (
  _,
  graph_shown costs (λ arcs row. row ≡ cost_words arcs) cost_words (curve_arcs One) cost_says Kinds.Min nodes lines _ _
      table graph e f (ap supply_rows shows.0) shows.1 valid.0.placed,
  refl,
)
contents_shown nodes lines (OfMax source sink table) (MaxFlow s t graph) e f shows valid = (
  _,
  graph_shown capacities (λ arcs row. row ≡ total_words arcs) total_words total_arcs total_says Kinds.Max nodes lines
      (terminal_rows source sink) (terminal_rows s t) table graph e f (rw (shows.0, shows.1)) shows.2 valid.0.placed,
  refl,
)
contents_shown nodes lines (OfSp table) (ShortestPaths graph) e f shows valid = (
  _,
  graph_shown lengths AreLengthWords length_words least_arcs length_says Kinds.Sp nodes lines [] [] table graph e f
      refl shows valid.placed,
  refl,
)
contents_shown nodes lines (OfSs ids) (Sources items) e f shows valid =
    (_, ap (λ n. contents_rows nodes n (OfSs ids)) f, refl)
contents_shown nodes lines (OfP2p pairs) (Queries items) e f shows valid =
    (_, ap (λ n. contents_rows nodes n (OfP2p pairs)) f, refl)
contents_shown nodes lines (OfCo points) (Coordinates items) e f shows valid =
    (_, ap (λ n. contents_rows nodes n (OfCo points)) f, refl)
contents_shown nodes lines _ _ e f shows valid = absurd shows

-- the text of a parsed instance is shown of each valid instance that it represents
pub held_shown : (h : Parsed) (I : Instance) → IsValid I → IsHeld h I → IsShown I (text_of (held_rows h))
held_shown h I valid held = contents_shown h.nodes h.lines h.contents I held.nodes_are held.lines_are held.shows valid
