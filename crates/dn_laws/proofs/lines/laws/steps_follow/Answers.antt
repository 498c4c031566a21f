use Rattle.dn_line.proofs.LineReaderLaws.{steps_follow}
use Rattle.dn_laws.proofs.lines.laws.steps_follow.Goals as goal

pub returns-clause-step : goal.returns-clause-step
returns-clause-step c = steps_follow
