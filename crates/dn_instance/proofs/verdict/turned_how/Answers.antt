use Rattle.std.proofs.Common.{rules}
use Rattle.dn_instance.proofs.verdict.turned_how.Goals as goal

pub returns-in-Costs : goal.returns-in-Costs
returns-in-Costs c = search rules
