use Rattle.std.proofs.Common.{rules}
use Rattle.dn_line.proofs.source.FromRead.new.Goals as goal

pub returns-clause-fine : goal.returns-clause-fine
returns-clause-fine g c = search rules
