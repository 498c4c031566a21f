use Rattle.std.proofs.Common.{rules}
use Rattle.dn_sink.proofs.bytes.Bytes.taken.Goals as goal

pub returns : goal.returns
returns c = search rules
