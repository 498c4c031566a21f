use Rattle.std.proofs.Common.{rules}
use Rattle.dn_num.proofs.number_reader.State.step.Goals as goal

pub returns-in_default-self : goal.returns-in_default-self
returns-in_default-self c = search rules
