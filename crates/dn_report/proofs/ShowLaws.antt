-- Lemmas on the lines that `show` prints for a parsed instance.
use Rattle.std.proofs.Common.{◌≡◌, ℕ, ℤ, pos, List, [], ◌∷◌, ◌++◌, length, codes, suc, refl, ap, append_assoc}
use Rattle.std.specs.List.{concat}
use Rattle.dn_line.specs.Names.{kind_name}
use Rattle.dn_line.specs.declared.kind.Kind.{Kind}
use Rattle.dn_instance.specs.State.Helds.{Bundles, Contents, Parsed, contents_kind}
use Rattle.dn_sink.specs.Rows.{Cells, line_text, text_of}
use Rattle.dn_report.specs.Shows.{kind_row, number_row, pair_row, shown_graph, supply_rows, terminal_rows}
use Rattle.dn_report.specs.State.ListedRows.{listed_rows, table_rows, contents_rows, held_rows}
use Rattle.dn_sink.proofs.RowLaws.{text-append}

module _ {B Arc : Type 0} (words : List Arc → Cells) (lists : B → List Arc) where
  -- the lines of a table are the line of the next bundle and then those of the other bundles
  pub pair_next : {left rest : Bundles B} {e : (ℤ × ℤ) × B} {line : List ℕ} → left ≡ e ∷ rest
      → line ≡ line_text (pair_row e.0 (words (lists e.1)))
      → text_of (listed_rows words lists left) ≡ line ++ text_of (listed_rows words lists rest)
  pair_next h is = rw (h, is)

  -- the line of the number of bundles and their lines are the lines of the table
  pub table_text : {n : ℕ} {line : List ℕ} (table : Bundles B)
      → line ≡ line_text (number_row (codes "pairs") (pos n)) → n ≡ length table
      → line ++ text_of (listed_rows words lists table) ≡ text_of (table_rows words lists table)
  table_text table is e = rw (is, e)

  -- there are as many lines as bundles
  count_listed : (table : Bundles B) → length (listed_rows words lists table) ≡ length table
  count_listed [] = refl
  count_listed (e ∷ es) = ap suc (count_listed es)

  -- the first lines of a graph and the lines of its table are the lines of the graph
  pub graph_text : {a b c : List ℕ} (kind : Kind) (nodes lines : ℤ) (besides : List Cells) (table : Bundles B)
      (ds : List (List ℕ)) → a ≡ line_text (kind_row kind) → b ≡ line_text (number_row (codes "nodes") nodes)
      → c ≡ line_text (number_row (codes "lines") lines) → concat ds ≡ text_of besides
      → concat (a ∷ b ∷ c ∷ ds) ++ text_of (table_rows words lists table) ≡ text_of
      (shown_graph kind nodes lines besides (listed_rows words lists table))
  graph_text {a} {b} {c} kind nodes lines besides table ds e f g h =
      let rows = listed_rows words lists table in
      rw (
        joined a b c (concat ds) (text_of (table_rows words lists table)),
        e,
        f,
        g,
        h,
        text-append besides (number_row (codes "pairs") (pos (length rows)) ∷ rows),
        count_listed table,
      )
    where
      joined : (a b c d e : List ℕ) → (a ++ (b ++ (c ++ d))) ++ e ≡ a ++ (b ++ (c ++ (d ++ e)))
      joined a b c d e = simp append_assoc

-- the line of the kind of a parsed instance
pub kind_text : {a word : List ℕ} {kind : Kind} {x y : Contents} → a ≡ line_text (codes "kind" ∷ word ∷ [])
    → word ≡ kind_name kind → kind ≡ contents_kind y → x ≡ y → a ≡ line_text (kind_row (contents_kind x))
kind_text e f g h = rw (e, f, g, h)

-- the text of a parsed instance, from its parts
pub held_text : {nodes lines : ℤ} {x : Contents} {text : List ℕ} (h : Parsed) → nodes ≡ h.nodes → lines ≡ h.lines
    → x ≡ h.contents → text ≡ text_of (contents_rows nodes lines x) → text ≡ text_of (held_rows h)
held_text h e f g is = rw (is, e, f, g)

-- the line of the number of supplies
pub supplies_text : {n : ℕ} {line : List ℕ} (supplies : List (ℤ × ℤ))
    → line ≡ line_text (number_row (codes "supplies") (pos n)) → n ≡ length supplies
    → line ++ [] ≡ text_of (supply_rows supplies)
supplies_text supplies is e = rw (is, e)

-- the lines of the source and the sink
pub terminals_text : {s t u v : ℤ} {a b : List ℕ} → a ≡ line_text (number_row (codes "source") u)
    → b ≡ line_text (number_row (codes "sink") v) → u ≡ s → v ≡ t → a ++ (b ++ []) ≡ text_of (terminal_rows s t)
terminals_text e f g h = rw (e, f, g, h)
