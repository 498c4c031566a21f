use Rattle.std.proofs.Common.{rules}
use Rattle.dn_line.proofs.kind.Kind.name.Goals as goal

pub returns-in-P2p : goal.returns-in-P2p
returns-in-P2p c = search rules
