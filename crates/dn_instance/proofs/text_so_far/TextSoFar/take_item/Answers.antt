use Rattle.dn_instance.proofs.RowTakes.{of_counted}
use Rattle.dn_instance.proofs.text_so_far.TextSoFar.take_item.Goals as goal

pub returns-in_default-clause-taken : goal.returns-in_default-clause-taken
returns-in_default-clause-taken c =
    of_counted c.args.self.now _ c.args.head c.args.row.now c.take_counted.result c.in_default.not-Problem
    c.in_default.not-Node c.take_counted.ensures.taken
