use Rattle.std.proofs.Common.{rules}
use Rattle.dn_line.proofs.line_reader.LineReader.fields.Goals as goal

pub returns : goal.returns
returns c = search rules
