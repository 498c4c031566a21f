use Rattle.dn_line.proofs.AnswerLaws.{head_item, head_skip}
use Rattle.dn_laws.proofs.lines.laws.head_as_spelled.Goals as goal

pub returns : goal.returns
returns c = record { item = head_item; skip = head_skip }
