use Rattle.std.proofs.Common.{rules}
use Rattle.dn_host.proofs.opened_files.stream_of.Goals as goal

pub returns-else-eq-clause-bytes : goal.returns-else-eq-clause-bytes
returns-else-eq-clause-bytes g c = search rules

pub returns-then-eq-clause-bytes : goal.returns-then-eq-clause-bytes
returns-then-eq-clause-bytes g c = search rules
