use Rattle.std.proofs.Common.{◌≡◌, refl, length, take, arith, ◌∙◌, rules}
use Rattle.std.proofs.lemmas.List.{take_more_set, length-set}
use Rattle.dn_line.specs.declared.row_block.RowLine.{RowLine}
use Rattle.dn_line.proofs.RowBlockLaws.{row_more}
use Rattle.dn_line.specs.State.Rows.{BeginsWithRow}
use Rattle.dn_line.proofs.row_block.fill.Goals as goal
use Rattle.dn_line.proofs.row_block.fill.Goals.{in-Some, in-None+in-Some-any_row}

pub loop-i-preserved : goal.loop-i-preserved
loop-i-preserved g c =
    let i = c.loop-i.i in
    let rows = c.loop-i.rows in
    let before = c.loop-i.invariant in
    let found = c.match-short_row.next in
    let rest = found.rest.now in
    let next : RowLine = record { row = found.row; left = length rest } in
    let begins : BeginsWithRow c.args.letter c.args.fields.now c.loop-i.rest.now found.row rest =
    elim c.match-short_row.branch [
      | in-Some w ↦ rw w.next-is w.in-Some.ensures
      | in-None+in-Some-any_row w ↦ rw w.next-is w.in-Some-any_row.ensures
    ] in
    record {
      long = length-set rows i next ∙ before.long;
      rows = λ kind has.
          rw (take_more_set rows i next (omega arith))
          (row_more kind c.args.letter c.args.bytes.now c.loop-i.rest.now rest (take i rows) next (before.rows kind has)
          (record { fields = c.args.fields.now; in_table = has; begins = begins; left = refl }));
    }

pub returns-in-None-any_row-clause-rows : goal.returns-in-None-any_row-clause-rows
returns-in-None-any_row-clause-rows g c = λ kind has. (c.loop-i.rest.now, c.loop-i.invariant.rows kind has)

pub returns-clause-rows : goal.returns-clause-rows
returns-clause-rows g c = λ kind has.
    let all : c.loop-i.i ≡ c.min-end.result = omega (arith, c.loop-i.auto.i-end) in
    (c.loop-i.rest.now, rw all at (c.loop-i.invariant.rows kind has))

pub returns-clause-few : goal.returns-clause-few
returns-clause-few g c = search rules
