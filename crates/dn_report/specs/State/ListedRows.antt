-- The lines of a parsed instance, made from the arcs that its bundles list.
use Rattle.std.specs.Prelude.{ℕ, ℤ, pos, List, [], ◌∷◌, length, map, codes}
use Rattle.std.specs.Fmt.{signed_decimal}
use Rattle.dn_line.specs.declared.kind.Kind.TheVariants as Kinds
use Rattle.dn_bundle.specs.State.Listings.{least_arcs, total_arcs, curve_arcs}
use Rattle.dn_arc_theory.specs.declared.arc.Form.TheVariants.{One}
use Rattle.dn_arc_theory.specs.declared.arc.LengthArc.{LengthArc}
use Rattle.dn_instance.specs.State.Helds.{Bundles, Contents, OfCo, OfHeld, OfMax, OfMin, OfP2p, OfSp, OfSs, Parsed}
use Rattle.dn_sink.specs.Rows.{Cells}
use Rattle.dn_report.specs.Shows.{IsShown, pair_row, total_words, cost_words, number_row, shown_graph, companion_rows, supply_rows, terminal_rows}

-- `length` and the length of the first arc, or nothing if there is no arc
abbrev pub length_words : List LengthArc → Cells
length_words [] = []
length_words (a ∷ rest) = codes "length" ∷ signed_decimal a.length ∷ []

-- the line of each bundle
abbrev pub listed_rows : {B Arc : Type 0} → (List Arc → Cells) → (B → List Arc) → Bundles B → List Cells
listed_rows words lists table = map (λ e. pair_row e.0 (words (lists e.1))) table

-- the line of the number of bundles, and the line of each bundle
abbrev pub table_rows : {B Arc : Type 0} → (List Arc → Cells) → (B → List Arc) → Bundles B → List Cells
table_rows words lists table = number_row (codes "pairs") (pos (length table)) ∷ listed_rows words lists table

-- the lines of these contents, with this number of nodes and of counted lines
abbrev pub contents_rows : ℤ → ℤ → Contents → List Cells
contents_rows nodes lines (OfMin flows table) =
    shown_graph Kinds.Min nodes lines (supply_rows flows) (listed_rows cost_words (curve_arcs One) table)
contents_rows nodes lines (OfMax source sink table) =
    shown_graph Kinds.Max nodes lines (terminal_rows source sink) (listed_rows total_words total_arcs table)
contents_rows nodes lines (OfSp table) = shown_graph Kinds.Sp nodes lines [] (listed_rows length_words least_arcs table)
contents_rows nodes lines (OfSs ids) = companion_rows Kinds.Ss lines
contents_rows nodes lines (OfP2p pairs) = companion_rows Kinds.P2p lines
contents_rows nodes lines (OfCo points) = companion_rows Kinds.Co lines

-- the lines of a parsed instance
abbrev pub held_rows : Parsed → List Cells
held_rows h = contents_rows h.nodes h.lines h.contents

-- `show` prints this text of every valid instance that the parsed instance represents
abbrev pub ShowsHeld : Parsed → List ℕ → Type 0
ShowsHeld held text = OfHeld held (λ I. IsShown I text)
