use Rattle.std.proofs.Common.{rules}
use Rattle.dn_instance.proofs.refusal.Refusal.number.Goals as goal

pub returns-in-Read : goal.returns-in-Read
returns-in-Read c = search rules
