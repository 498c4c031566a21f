-- Lemmas on putting the lines of a text into a sink one by one.
use Rattle.std.proofs.Common.{◌≡◌, ◌⊎◌, inl, inr, get_or, ℕ, ◌<◌, ◌≤◌, ℤ, List, [], ◌∷◌, ◌++◌, length, map, drop, Option, Some, None, slice_get, ◌∙◌, arith, append-nil}
use Rattle.std.proofs.lemmas.List.{drop_all, map-append}
use Rattle.std.proofs.lemmas.Option.{slice_get_cases}
use Rattle.std.specs.Borrow.{Bor}
use Rattle.dn_line.specs.declared.kind.Kind.{Kind}
use Rattle.dn_line.specs.declared.word.Keyword.TheVariants.{A, S, T}
use Rattle.dn_arc_theory.specs.Kinds.{ArcKind}
use Rattle.dn_instance.specs.Instances.{Graph}
use Rattle.dn_canon.specs.Prints.{word_row, graph_row, terminal_row, arc_row, graph_rows}
use Rattle.dn_sink.specs.Rows.{Cells, line_text, text_of}
use Rattle.dn_sink.specs.Puts.{HasPut, PutsPrefix}
use Rattle.dn_canon.proofs.BlockLaws.{pass_more, pass_stop, all_done}
use Rattle.dn_canon.specs.State.ListedArcs.{placed, listed_arcs}
use Rattle.dn_canon.specs.State.Writes.{node_rows}
use Rattle.dn_canon.specs.declared.writer.NodeLines.{NodeLines}
use Rattle.dn_canon.specs.declared.writer.NodeLines.TheVariants.{Terminals}
use Rattle.dn_sink.specs.Sinks.{SinkFacts}
use Rattle.dn_sink.proofs.RowLaws.{text-append}
use Rattle.dn_sink.proofs.PutLaws.{put_from}

module _ {K : Type 0} {sink : SinkFacts K} {a b c : K} {X : Type 0} {all line : List ℕ} {left rest : List X} {x : X}
    (row : X → Cells) (before : List ℕ) (e : left ≡ x ∷ rest) (f : line ≡ line_text (row x))
    (h : HasPut sink a b (before ++ text_of (map row left)) all) where
  -- the line of the next row passes through the block
  pub row_more : {after : List ℕ} → HasPut sink b c after (before ++ line)
      → HasPut sink a c (after ++ text_of (map row rest)) all
  row_more p = pass_more before (line_text (row x)) _ (rw e at h) (rw f at p)

  -- if a prefix of the block and the next line is put, a prefix of the text is put
  pub row_stop : PutsPrefix sink b c (before ++ line) → PutsPrefix sink a c all
  row_stop p = pass_stop before (line_text (row x)) _ (rw e at h) (rw f at p)

-- the arc lines of a table are those of its next bundle and then those of the other bundles
pub bundle_text : {B Arc : Type 0} {left rest : List ((ℤ × ℤ) × B)} {e : (ℤ × ℤ) × B} (kind : ArcKind Arc)
    (lists : B → List Arc) → left ≡ e ∷ rest
    → text_of (map (arc_row kind) (listed_arcs lists left)) ≡ text_of
    (map (arc_row kind) (placed e.0 (lists e.1))) ++ text_of (map (arc_row kind) (listed_arcs lists rest))
bundle_text {rest = rest} {e = e} kind lists is =
    rw (
      is,
      map-append (arc_row kind) (placed e.0 (lists e.1)) (listed_arcs lists rest),
      text-append (map (arc_row kind) (placed e.0 (lists e.1))),
    )

-- a position below the length has an element
pub some_below : {X : Type 0} (xs : List X) (i : ℕ) (o : Option X) → i < length xs → o ≡ slice_get xs i
    → ((x : X) → o ≡ Some x → ⊥) → ⊥
some_below {X} xs i o h e n = by_case (slice_get_cases xs i).1
  where
    by_case : ((x : X) × (i < length xs) × (slice_get xs i ≡ Some x) × (get_or xs i x ≡ x)) ⊎
        ((length xs ≤ i) × (slice_get xs i ≡ None)) → ⊥
    by_case (inl (x, below, at, is)) = n x (e ∙ at)
    by_case (inr (past, none)) = absurd (omega arith)

-- past the last row, only the block is left
pub rows_done : {K : Type 0} {sink : SinkFacts K} {a b : K} {all : List ℕ} {X : Type 0} (row : X → Cells)
    (block : List ℕ) (xs : List X) (i : ℕ) → length xs ≤ i
    → HasPut sink a b (block ++ text_of (map row (drop i xs))) all → HasPut sink a b block all
rows_done row block xs i h = all_done block _ (rw (drop_all i xs h))

-- after the problem line of a graph, its node lines and its arc lines are left
pub graph_start : {K : Type 0} {sink : SinkFacts K} {a : K} {Arc : Type 0} {empty line : List ℕ} {count : ℕ}
    (arcs : ArcKind Arc) (kind : Kind) (graph : Graph Arc) (nodes : List Cells) → empty ≡ []
    → line ≡ empty ++ line_text (graph_row kind graph.nodes count) → count ≡ length graph.arcs
    → HasPut sink a a (line ++ (text_of nodes ++ (text_of (map (arc_row arcs) graph.arcs) ++ [])))
    (text_of (graph_rows arcs kind graph nodes))
graph_start arcs kind graph nodes e f n =
    put_from (rw (f, e, n, append-nil, text-append nodes (map (arc_row arcs) graph.arcs)))

-- the line of an arc's nodes and numbers is the arc's line
pub arc_text : {Arc : Type 0} {line : List ℕ} {ns : List ℤ} (arcs : ArcKind Arc) (pair : ℤ × ℤ) (arc : Arc)
    → line ≡ line_text (word_row A (pair.0 ∷ pair.1 ∷ ns)) → arcs.numbers arc ≡ ns
    → line ≡ line_text (arc_row arcs (pair, arc))
arc_text arcs pair arc e f = rw f e

-- the lines of the source and the sink are the node lines of a `max` problem
pub terminals_text : {nodes : NodeLines} {source target : Bor ℤ} → nodes ≡ Terminals source target
    → line_text (terminal_row source.now S) ++ line_text (terminal_row target.now T) ≡ text_of (node_rows nodes)
terminals_text e = rw (e, append-nil)
