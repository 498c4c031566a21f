use Rattle.std.proofs.Common.{rules}
use Rattle.dn_sink.proofs.line_buffer.LineBuffer.begin.Goals as goal

pub push-requires : goal.push-requires
push-requires c = search rules

pub returns : goal.returns
returns c = search rules
