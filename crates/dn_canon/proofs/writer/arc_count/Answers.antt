use Rattle.std.proofs.Common.{◌∙◌, arith}
use Rattle.dn_canon.proofs.ListedLaws.{count_listed}
use Rattle.dn_canon.proofs.writer.arc_count.Goals as goal

pub returns-then-all-clause-count : goal.returns-then-all-clause-count
returns-then-all-clause-count g c =
    (c.in-Some.ensures.count ∙ count_listed (g.B.Bundle.bundle.listed c.args.form) c.args.table.now, c.if-all.true)

pub returns-else-all-clause-count : goal.returns-else-all-clause-count
returns-else-all-clause-count g c =
    omega (
      arith,
      c.if-all.false,
      c.in-Some.ensures.count ∙ count_listed (g.B.Bundle.bundle.listed c.args.form) c.args.table.now,
    )

pub returns-in-None-clause-count : goal.returns-in-None-clause-count
returns-in-None-clause-count g c =
    let over = rw (count_listed (g.B.Bundle.bundle.listed c.args.form) c.args.table.now) at c.in-None.ensures.count in
    omega arith
