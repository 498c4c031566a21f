use Rattle.std.proofs.Common.{rules, refl, ◌∷◌, [], ◌∙◌, FitsSigned, w64, to_z-of_z}
use Rattle.dn_line.specs.declared.kind.Kind.TheVariants as Kinds
use Rattle.dn_bundle.specs.State.Listings.{least_arcs, total_arcs, curve_arcs}
use Rattle.dn_arc_theory.specs.declared.arc.Form.TheVariants.{One}
use Rattle.dn_report.specs.Shows.{cost_words, total_words, supply_rows, terminal_rows}
use Rattle.dn_report.specs.State.ListedRows.{length_words}
use Rattle.dn_report.proofs.ShowLaws.{graph_text, kind_text, held_text, supplies_text, terminals_text}
use Rattle.dn_report.proofs.show.put_held.Goals as goal

pub returns-in-Min : goal.returns-in-Min
returns-in-Min g c =
    let nodes : FitsSigned w64 c.nodes.result = search rules in
    let lines : FitsSigned w64 c.lines.result = search rules in
    let kind = kind_text c.word_line-kind.ensures (search rules) c.kind.ensures c.in-Min.ensures in
    let supplies = supplies_text c.in-Min.supplies.now.entries c.count_line-supplies.ensures c.len.ensures.value in
    rw (held_text c.args.held.now (to_z-of_z nodes ∙ c.nodes.ensures) (to_z-of_z lines ∙ c.lines.ensures)
    c.in-Min.ensures
    (graph_text cost_words (curve_arcs One) Kinds.Min _ _ (supply_rows c.in-Min.supplies.now.entries) c.in-Min.table.now
    (c.count_line-supplies.result ∷ []) kind c.number_line-nodes.ensures c.number_line-lines.ensures supplies))
    at c.put_graph.ensures

pub returns-in-Max : goal.returns-in-Max
returns-in-Max g c =
    let nodes : FitsSigned w64 c.nodes.result = search rules in
    let lines : FitsSigned w64 c.lines.result = search rules in
    let source : FitsSigned w64 c.in-Max.source = search rules in
    let target : FitsSigned w64 c.in-Max.target = search rules in
    let kind = kind_text c.word_line-kind.ensures (search rules) c.kind.ensures c.in-Max.ensures in
    let terminals = terminals_text c.number_line-source.ensures c.number_line-target.ensures (to_z-of_z source)
    (to_z-of_z target) in
    rw (held_text c.args.held.now (to_z-of_z nodes ∙ c.nodes.ensures) (to_z-of_z lines ∙ c.lines.ensures)
    c.in-Max.ensures
    (graph_text total_words total_arcs Kinds.Max _ _ (terminal_rows c.in-Max.source c.in-Max.target) c.in-Max.table.now
    (c.number_line-source.result ∷ c.number_line-target.result ∷ []) kind c.number_line-nodes.ensures
    c.number_line-lines.ensures terminals))
    at c.put_graph-in-Max.ensures

pub returns-in-Sp : goal.returns-in-Sp
returns-in-Sp g c =
    let nodes : FitsSigned w64 c.nodes.result = search rules in
    let lines : FitsSigned w64 c.lines.result = search rules in
    let kind = kind_text c.word_line-kind.ensures (search rules) c.kind.ensures c.in-Sp.ensures in
    rw (held_text c.args.held.now (to_z-of_z nodes ∙ c.nodes.ensures) (to_z-of_z lines ∙ c.lines.ensures)
    c.in-Sp.ensures
    (graph_text length_words least_arcs Kinds.Sp _ _ [] c.in-Sp.table.now [] kind c.number_line-nodes.ensures
    c.number_line-lines.ensures refl))
    at c.put_graph-in-Sp.ensures
