use Rattle.std.proofs.Common.{rules}
use Rattle.dn_host.proofs.opened_files.OpenedFilesFiles.release.Goals as goal

pub returns : goal.returns
returns g c = search rules
