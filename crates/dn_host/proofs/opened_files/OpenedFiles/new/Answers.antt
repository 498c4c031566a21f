use Rattle.std.proofs.Common.{rules}
use Rattle.dn_host.proofs.opened_files.OpenedFiles.new.Goals as goal

pub returns-clause-fault : goal.returns-clause-fault
returns-clause-fault c = search rules
