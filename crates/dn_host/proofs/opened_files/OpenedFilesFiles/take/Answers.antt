use Rattle.std.proofs.Common.{rules}
use Rattle.dn_host.proofs.opened_files.OpenedFilesFiles.take.Goals as goal

pub returns-in-Err : goal.returns-in-Err
returns-in-Err g c = search rules
