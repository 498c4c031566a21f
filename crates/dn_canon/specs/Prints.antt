-- How an instance is printed: the lines of the two Challenges' formats, with single spaces, shortest texts of numbers,
-- and an LF after every line (this project's profile).
use Rattle.std.specs.Prelude.{ℕ, ℤ, pos, List, [], ◌∷◌, ◌++◌, length, map}
use Rattle.std.specs.Fmt.{signed_decimal}
use Rattle.dn_line.specs.Names.{kind_name}
use Rattle.dn_line.specs.Words.{keyword_text}
use Rattle.dn_line.specs.declared.kind.Kind.{Kind}
use Rattle.dn_line.specs.declared.kind.Kind.TheVariants as Kinds
use Rattle.dn_line.specs.declared.word.Keyword.{Keyword}
use Rattle.dn_line.specs.declared.word.Keyword.TheVariants.{P, N, A, S, T, Q, V, Sp, Aux}
use Rattle.dn_sink.specs.Rows.{Cells, text_of}
use Rattle.dn_arc_theory.specs.Kinds.{ArcKind, costs, capacities, lengths}
use Rattle.dn_instance.specs.Instances.{Graph, Instance, MinCostFlow, MaxFlow, ShortestPaths, Sources, Queries, Coordinates}

-- the line of a keyword and numbers
abbrev pub word_row : Keyword → List ℤ → Cells
word_row keyword numbers = keyword_text keyword ∷ map signed_decimal numbers

-- the problem line of a graph, `p KIND NODES ARCS`
abbrev pub graph_row : Kind → ℤ → ℕ → Cells
graph_row kind nodes arcs =
    keyword_text P ∷ kind_name kind ∷ signed_decimal nodes ∷ signed_decimal (pos arcs) ∷ []

-- the problem line of a companion, `p aux sp KIND K`
abbrev pub companion_row : Kind → ℕ → Cells
companion_row kind count =
    keyword_text P ∷ keyword_text Aux ∷ keyword_text Sp ∷ kind_name kind ∷ signed_decimal (pos count) ∷ []

-- the node line of a supply, `n ID FLOW`
abbrev pub supply_row : ℤ × ℤ → Cells
supply_row supply = word_row N (supply.0 ∷ supply.1 ∷ [])

-- the node line of a source or a sink, `n ID s` or `n ID t`
abbrev pub terminal_row : ℤ → Keyword → Cells
terminal_row id letter = keyword_text N ∷ signed_decimal id ∷ keyword_text letter ∷ []

-- the line of an arc, `a SRC DST` and then the arc's numbers
abbrev pub arc_row : {Arc : Type 0} → ArcKind Arc → (ℤ × ℤ) × Arc → Cells
arc_row kind arc = word_row A (arc.0.0 ∷ arc.0.1 ∷ kind.numbers arc.1)

-- the line of a source of queries, `s ID`
abbrev pub source_row : ℤ → Cells
source_row id = word_row S (id ∷ [])

-- the line of a query, `q ID1 ID2`
abbrev pub query_row : ℤ × ℤ → Cells
query_row query = word_row Q (query.0 ∷ query.1 ∷ [])

-- the line of a point, `v ID X Y`
abbrev pub point_row : ℤ × (ℤ × ℤ) → Cells
point_row point = word_row V (point.0 ∷ point.1.0 ∷ point.1.1 ∷ [])

-- the lines of a graph: the problem line, the node lines, and the arcs in their order
abbrev pub graph_rows : {Arc : Type 0} → ArcKind Arc → Kind → Graph Arc → List Cells → List Cells
graph_rows arcs kind graph nodes =
    graph_row kind graph.nodes (length graph.arcs) ∷ (nodes ++ map (arc_row arcs) graph.arcs)

-- the lines of an instance: the problem line with the number of counted lines, and then the other lines in the
-- instance's order. The source of a `max` problem comes before its sink
abbrev pub rows : Instance → List Cells
rows (MinCostFlow supplies graph) = graph_rows costs Kinds.Min graph (map supply_row supplies)
rows (MaxFlow source sink graph) =
    graph_rows capacities Kinds.Max graph (terminal_row source S ∷ terminal_row sink T ∷ [])
rows (ShortestPaths graph) = graph_rows lengths Kinds.Sp graph []
rows (Sources ids) = companion_row Kinds.Ss (length ids) ∷ map source_row ids
rows (Queries pairs) = companion_row Kinds.P2p (length pairs) ∷ map query_row pairs
rows (Coordinates points) = companion_row Kinds.Co (length points) ∷ map point_row points

-- the printed text of an instance
abbrev pub print : Instance → List ℕ
print I = text_of (rows I)
