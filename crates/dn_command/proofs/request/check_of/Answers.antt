use Rattle.std.proofs.Common.{rules}
use Rattle.dn_command.proofs.request.check_of.Goals as goal

pub returns : goal.returns
returns c = search rules
