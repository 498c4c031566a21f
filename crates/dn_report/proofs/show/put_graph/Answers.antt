use Rattle.std.proofs.Common.{◌++◌, refl, ap}
use Rattle.std.specs.List.{concat}
use Rattle.dn_arc_theory.specs.declared.arc.Form.TheVariants.{One}
use Rattle.dn_sink.specs.Rows.{text_of}
use Rattle.dn_sink.proofs.PutLaws.{put_from, put_more, put_stop, put_last, stopped}
use Rattle.dn_report.specs.State.ListedRows.{table_rows}
use Rattle.dn_report.proofs.ShowLaws.{table_text}
use Rattle.dn_report.proofs.show.put_graph.Goals as goal

pub returns-in_err-put_lines : goal.returns-in_err-put_lines
returns-in_err-put_lines g c =
    stopped _ c.from_residual.ensures.0
    (put_stop (concat c.args.head.now)
    (text_of (table_rows g.B.PairLine.words (g.B.Bundle.bundle.listed One) c.args.table.now)) (put_from refl)
    c.in_err-put_lines.ensures)

pub returns-in_err-put : goal.returns-in_err-put
returns-in_err-put g c =
    let start = table_text g.B.PairLine.words (g.B.Bundle.bundle.listed One) c.args.table.now c.count_line.ensures
    c.len.ensures in
    stopped _ c.from_residual-in_err-put.ensures.0
    (put_stop c.count_line.result _
    (put_more (put_from (ap (λ l. concat c.args.head.now ++ l) start)) c.in_ok-put_lines.ensures) c.in_err-put.ensures)

pub returns : goal.returns
returns g c =
    let start = table_text g.B.PairLine.words (g.B.Bundle.bundle.listed One) c.args.table.now c.count_line.ensures
    c.len.ensures in
    put_last g.K.Sink.sink _ _ _ _ _ _
    (put_more (put_more (put_from (ap (λ l. concat c.args.head.now ++ l) start)) c.in_ok-put_lines.ensures)
    c.in_ok-put.ensures) c.put_pairs.ensures
