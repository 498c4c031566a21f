use Rattle.std.proofs.Common.{◌≡◌, ◌<◌, get_or, length, refl, ◌∙◌, arith}
use Rattle.std.proofs.lemmas.Bool.Decides.{nat_tests}
use Rattle.dn_line.specs.State.RowBlocks.{ReadUpTo}
use Rattle.dn_arc_lines.proofs.RowsLaws.{left_is, not_more, takes}
use Rattle.dn_arc_lines.proofs.arc_lines.ArcLines.take_rows.Goals as goal

pub returns-clause-taken : goal.returns-clause-taken
returns-clause-taken c ls h =
    let old = c.args.self.now in
    let piece = c.args.piece.now in
    let kind = c.in_ok-kind.kind in
    let rows = c.rows-rows.result.now in
    let read = c.read.ensures.rows in
    let letter : get_or piece 0 0 ≡ 97 = omega (arith, c.if-letter-ne97.false) in
    let u : ReadUpTo kind 97 piece rows read.0 = rw (c.rows-rows.ensures.rows, ← letter) read.1 in
    takes old _ kind ls piece read.0 rows c.saturating_sub.result _ _ h c.requires.fine c.in_ok-kind.was u
    (omega (arith, c.if-self.false, c.rows-rows.ensures.few))
    (c.saturating_sub.ensures ∙ rw c.left_behind.ensures) refl c.put_rows.ensures.rows

pub returns-clause-some : goal.returns-clause-some
returns-clause-some c =
    let piece = c.args.piece.now in
    let rows = c.rows-rows.result.now in
    let read = c.read.ensures.rows in
    let letter = get_or piece 0 0 in
    let u : ReadUpTo c.in_ok-kind.kind letter piece rows read.0 = rw c.rows-rows.ensures.rows read.1 in
    let some : 0 < length rows = grind (arith, nat_tests, c.is_empty.ensures, c.if-is_empty.false) in
    omega (
      arith,
      some,
      c.saturating_sub.ensures,
      c.left_behind.ensures,
      left_is c.in_ok-kind.kind letter piece read.0 rows u,
      not_more c.in_ok-kind.kind letter piece read.0 rows u,
    )
