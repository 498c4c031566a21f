use Rattle.std.proofs.Common.{rules}
use Rattle.dn_sink.proofs.bytes.Bytes.new.Goals as goal

pub returns-clause-bytes : goal.returns-clause-bytes
returns-clause-bytes c = search rules
