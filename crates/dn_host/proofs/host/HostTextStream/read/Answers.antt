use Rattle.std.proofs.Common.{rules}
use Rattle.dn_host.proofs.host.HostTextStream.read.Goals as goal

pub returns-in-Input : goal.returns-in-Input
returns-in-Input g c = search rules
