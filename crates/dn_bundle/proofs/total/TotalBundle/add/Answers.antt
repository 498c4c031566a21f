use Rattle.std.proofs.Common.{rules}
use Rattle.dn_bundle.proofs.total.TotalBundle.add.Goals as goal

pub returns-in_default-clause-err : goal.returns-in_default-clause-err
returns-in_default-clause-err c = search rules
