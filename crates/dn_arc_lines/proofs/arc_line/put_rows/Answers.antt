use Rattle.std.proofs.Common.{◌≡◌, ◌+◌, ◌<◌, ◌∷◌, [], ◌++◌, length, take, set, ap, ◌∙◌, append_assoc, arith}
use Rattle.std.proofs.lemmas.List.{drop-set-lt, take_more_set, length-set}
use Rattle.dn_arc_lines.specs.State.Reading.{numbered}
use Rattle.dn_arc_lines.proofs.HandsLaws.{rest_later}
use Rattle.dn_arc_lines.proofs.RowsLaws.{one_more_row}
use Rattle.dn_arc_lines.proofs.arc_line.put_rows.Goals as goal

pub loop-i-preserved : goal.loop-i-preserved
loop-i-preserved c =
    let i = c.loop-i.i in
    let at = c.args.at in
    let rows = c.args.rows.now in
    let first = take at c.args.out.now in
    let number = c.args.number in
    let put = c.arc_line_of_row.result in
    let within : i < length rows = omega (arith, c.loop-i-test.true) in
    let low : at + i < length c.loop-i.out = omega (arith, within, c.requires.room, c.loop-i.invariant.kept) in
    let next : at + (i + 1) ≡ at + i + 1 = omega arith in
    record {
      kept = length-set c.loop-i.out (at + i) put ∙ c.loop-i.invariant.kept;
      rest =
          rw next (drop-set-lt (at + i + 1) c.loop-i.out (at + i) put (omega arith)
          ∙ rest_later (at + i) (at + i + 1) c.loop-i.out c.args.out.now (omega arith) c.loop-i.invariant.rest);
      rows =
          ap (λ n. take n (set c.loop-i.out (at + i) put)) next ∙ take_more_set c.loop-i.out (at + i) put low
          ∙ ap (λ l. l ++ put ∷ []) c.loop-i.invariant.rows
          ∙ append_assoc first (numbered number (take i rows)) (put ∷ [])
          ∙ ap (λ l. first ++ l) (one_more_row number i rows _ put within c.arc_line_of_row.ensures);
    }
