use Rattle.std.proofs.Common.{rules}
use Rattle.dn_sink.proofs.line_buffer.LineBuffer.number.Goals as goal

pub returns-clause-text : goal.returns-clause-text
returns-clause-text c = search rules
