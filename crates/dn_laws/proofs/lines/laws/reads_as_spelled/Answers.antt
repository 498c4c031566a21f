use Rattle.dn_line.proofs.AnswerLaws.{read_item, read_fault, read_skip}
use Rattle.dn_laws.proofs.lines.laws.reads_as_spelled.Goals as goal

pub returns : goal.returns
returns c = record { item = read_item; fault = read_fault; skip = read_skip }
