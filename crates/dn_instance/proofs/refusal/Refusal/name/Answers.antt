use Rattle.std.proofs.Common.{rules}
use Rattle.dn_instance.proofs.refusal.Refusal.name.Goals as goal

pub returns-in-Endless : goal.returns-in-Endless
returns-in-Endless c = search rules
