use Rattle.std.proofs.Common.{rules}
use Rattle.dn_run.proofs.commands.perform.Goals as goal

pub returns-in-Canon : goal.returns-in-Canon
returns-in-Canon g c = search rules
