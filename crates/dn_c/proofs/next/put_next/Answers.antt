use Rattle.std.proofs.Common.{◌≡◌, length, subst}
use Rattle.dn_c.specs.State.Cursors.{cursor_with}
use Rattle.dn_c.proofs.WalkLaws.{copies_from}
use Rattle.dn_c.proofs.next.put_next.Goals as goal

pub returns-clause-copies : goal.returns-clause-copies
returns-clause-copies g c =
    let put = c.put_rows-put in
    copies_from g.B.Arc.Parts.numbers (g.B.Bundle.bundle.listed c.args.form) g.B.Kept.arc_at
    (λ index x. subst (λ l. g.B.Kept.arc_at (cursor_with index l) ≡ x) (g.met.B.Bundle.same_numbers x)
    (g.met.B.Kept.keeps index x))
    c.args.table.now c.args.cursor.now c.cursor_after.result (length c.args.out.now) c.put_rows-put.new.out
    put.result.0 put.result.1.0 c.last_before.result put.result.1.1 c.fine_count.result c.last_before.ensures
    c.cursor_after.ensures
    c.fine_count.ensures put.ensures.fills put.ensures.listed
