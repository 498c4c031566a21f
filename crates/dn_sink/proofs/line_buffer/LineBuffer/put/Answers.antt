use Rattle.std.proofs.Common.{rules}
use Rattle.dn_sink.proofs.line_buffer.LineBuffer.put.Goals as goal

pub returns : goal.returns
returns g c = search rules
