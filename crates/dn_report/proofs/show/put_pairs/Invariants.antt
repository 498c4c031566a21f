use Rattle.dn_arc_theory.specs.declared.arc.Form.TheVariants.{One}
use Rattle.dn_sink.specs.Rows.{text_of}
use Rattle.dn_sink.specs.Puts.{HasPut}
use Rattle.dn_report.specs.State.ListedRows.{listed_rows}
use Rattle.dn_report.proofs.show.put_pairs.Given as goal

abbrev pub invariant-loop-pair : goal.invariant-loop-pair
invariant-loop-pair g l =
    let rows = listed_rows g.B.PairLine.words (g.B.Bundle.bundle.listed One) in
    HasPut g.K.Sink.sink l.fn.sink l.sink (text_of (rows l.pair-iterator)) (text_of (rows l.table))
