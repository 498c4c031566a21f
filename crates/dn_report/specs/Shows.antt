-- What `show` prints for an instance (this project's profile).
use Rattle.std.specs.Prelude.{◌≡◌, ◌↔◌, ℕ, ℤ, pos, List, [], ◌∷◌, ◌++◌, length, map, codes, None, IfSome}
use Rattle.std.specs.Fmt.{signed_decimal}
use Rattle.std.specs.List.Sorted.{IsStrictlySortedBy}
use Rattle.std.specs.Map.{keys_of, lookup}
use Rattle.dn_line.specs.Names.{kind_name}
use Rattle.dn_line.specs.declared.kind.Kind.{Kind}
use Rattle.dn_line.specs.declared.kind.Kind.TheVariants as Kinds
use Rattle.dn_arc_theory.specs.Capacities.{total_cap}
use Rattle.dn_arc_theory.specs.Entries.{free_costs}
use Rattle.dn_arc_theory.specs.Fillings.{forced_units, forced_cost}
use Rattle.dn_arc_theory.specs.Kinds.{ArcKind, costs, capacities, lengths}
use Rattle.dn_arc_theory.specs.Lengths.{LeastLength}
use Rattle.dn_arc_theory.specs.declared.arc.LengthArc.{LengthArc}
use Rattle.dn_arc_theory.specs.declared.arc.CapArc.{CapArc}
use Rattle.dn_arc_theory.specs.declared.arc.CostArc.{CostArc}
use Rattle.dn_arc_theory.specs.Pairs.{bundle, pair_cmp, same_pair}
use Rattle.dn_instance.specs.Instances.{Graph, Instance, MinCostFlow, MaxFlow, ShortestPaths, Sources, Queries, Coordinates}
use Rattle.dn_sink.specs.Rows.{Cells, text_of}

-- `kind K`, where K is the kind
abbrev pub kind_row : Kind → Cells
kind_row kind = codes "kind" ∷ kind_name kind ∷ []

-- the line of a word and a number
abbrev pub number_row : List ℕ → ℤ → Cells
number_row name n = name ∷ signed_decimal n ∷ []

-- `pair SRC DST`, followed by words on its arcs
abbrev pub pair_row : ℤ × ℤ → Cells → Cells
pair_row p words = codes "pair" ∷ signed_decimal p.0 ∷ signed_decimal p.1 ∷ words

-- the words on the arcs of an `sp` pair: `length W`, where W is their least length
abbrev pub AreLengthWords : List LengthArc → Cells → Type 0
AreLengthWords arcs words =
    (w : ℤ) × LeastLength arcs w × (words ≡ codes "length" ∷ signed_decimal w ∷ [])

-- the words on the arcs of a `max` pair: `total C`, where C is the sum of their CAPs
abbrev pub total_words : List CapArc → Cells
total_words arcs = codes "total" ∷ signed_decimal (total_cap arcs) ∷ []

-- `forced L cost F steps N`, for L forced units of total cost F, and N costs with free capacity
abbrev pub forced_words : ℤ → ℤ → ℕ → Cells
forced_words units cost steps =
    codes "forced" ∷ signed_decimal units ∷ codes "cost" ∷ signed_decimal cost
    ∷ codes "steps" ∷ signed_decimal (pos steps) ∷ []

-- the words on the arcs of a `min` pair: L is the sum of their LOWs, F the sum of LOW times COST, and N the number of
-- COSTs with free capacity
abbrev pub cost_words : List CostArc → Cells
cost_words arcs = forced_words (forced_units arcs) (forced_cost arcs) (length (free_costs arcs))

-- one line for each ordered pair whose arcs mean something, by ascending pair, with words on these arcs
pub record ArePairRows {Arc : Type 0} (kind : ArcKind Arc) (AreWords : List Arc → Cells → Type 0)
    (arcs : List ((ℤ × ℤ) × Arc)) (rows : List Cells) : Type 0 where
  pub entries : List ((ℤ × ℤ) × Cells)
  pub ascending : IsStrictlySortedBy pair_cmp (keys_of entries)
  pub meant : (p : ℤ × ℤ) → (lookup (same_pair p) entries ≡ None) ↔ kind.Same (bundle p arcs) []
  pub words : (p : ℤ × ℤ) → IfSome (lookup (same_pair p) entries) (AreWords (bundle p arcs))
  pub rows_are : rows ≡ map (λ e. pair_row e.0 e.1) entries

-- the lines of a graph: kind, nodes, lines, what else its kind has, the number of pairs, and the pairs
abbrev pub shown_graph : Kind → ℤ → ℤ → List Cells → List Cells → List Cells
shown_graph kind nodes lines besides pairs =
    kind_row kind ∷ number_row (codes "nodes") nodes ∷ number_row (codes "lines") lines
    ∷ (besides ++ number_row (codes "pairs") (pos (length pairs)) ∷ pairs)

-- the lines of a companion: kind and lines
abbrev pub companion_rows : Kind → ℤ → List Cells
companion_rows kind lines = kind_row kind ∷ number_row (codes "lines") lines ∷ []

-- the line of the number of supplies of a `min` problem
abbrev pub supply_rows : List (ℤ × ℤ) → List Cells
supply_rows supplies = number_row (codes "supplies") (pos (length supplies)) ∷ []

-- the lines of the source and the sink of a `max` problem
abbrev pub terminal_rows : ℤ → ℤ → List Cells
terminal_rows source sink = number_row (codes "source") source ∷ number_row (codes "sink") sink ∷ []

-- the lines of this graph; `lines` is the number of its arcs
pub record AreGraphRows {Arc : Type 0} (kind : ArcKind Arc) (AreWords : List Arc → Cells → Type 0) (name : Kind)
    (graph : Graph Arc) (besides rows : List Cells) : Type 0 where
  pub pairs : List Cells
  pub are_pairs : ArePairRows kind AreWords graph.arcs pairs
  pub rows_are : rows ≡ shown_graph name graph.nodes (pos (length graph.arcs)) besides pairs

-- these are the lines that `show` prints for an instance
abbrev pub AreShown : Instance → List Cells → Type 0
AreShown (MinCostFlow supplies graph) rows =
    AreGraphRows costs (λ arcs words. words ≡ cost_words arcs) Kinds.Min graph (supply_rows supplies) rows
AreShown (MaxFlow source sink graph) rows =
    AreGraphRows capacities (λ arcs words. words ≡ total_words arcs) Kinds.Max graph (terminal_rows source sink) rows
AreShown (ShortestPaths graph) rows = AreGraphRows lengths AreLengthWords Kinds.Sp graph [] rows
AreShown (Sources ids) rows = rows ≡ companion_rows Kinds.Ss (pos (length ids))
AreShown (Queries pairs) rows = rows ≡ companion_rows Kinds.P2p (pos (length pairs))
AreShown (Coordinates points) rows = rows ≡ companion_rows Kinds.Co (pos (length points))

-- t is the text that `show` prints for an instance
abbrev pub IsShown : Instance → List ℕ → Type 0
IsShown I t = (rows : List Cells) × AreShown I rows × (t ≡ text_of rows)
