use Rattle.std.proofs.Common.{rules}
use Rattle.dn_table.proofs.table_so_far.TableSoFar.add_fresh.Goals as goal

pub returns-in-None-clause-memory : goal.returns-in-None-clause-memory
returns-in-None-clause-memory g c = search rules
