use Rattle.std.proofs.Common.{◌∙◌}
use Rattle.dn_table.proofs.table_so_far.TableSoFar.position_from.Goals as goal

pub find-requires : goal.find-requires
find-requires g c = rw c.deref.ensures.value c.self.invariant

pub returns-in-Some-clause-position : goal.returns-in-Some-clause-position
returns-in-Some-clause-position g c = c.stands_at.ensures c.if-stands_at.true

pub returns-in_default-clause-position : goal.returns-in_default-clause-position
returns-in_default-clause-position g c = rw (c.deref.ensures.value ∙ c.self.view_is) at c.find.ensures.position
