use Rattle.std.proofs.Common.{◌∙◌}
use Rattle.dn_table.proofs.table_so_far.TableSoFar.entries.Goals as goal

pub returns : goal.returns
returns g c arcs lists are few =
    c.bundle_entries.ensures
    (rw c.deref.ensures.value c.self.invariant.apart) arcs
    (rw (c.deref.ensures.value ∙ c.self.view_is) lists) are few
