use Rattle.std.proofs.Common.{rules}
use Rattle.dn_host.proofs.buffered.BufferedByteSource.pull.Goals as goal

pub returns-then-self : goal.returns-then-self
returns-then-self g c = search rules
