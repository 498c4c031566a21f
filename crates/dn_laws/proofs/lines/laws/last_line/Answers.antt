use Rattle.dn_line.proofs.PieceLaws.{lines_ended, lines_unended}
use Rattle.dn_laws.proofs.lines.laws.last_line.Goals as goal

pub returns-clause-ended : goal.returns-clause-ended
returns-clause-ended c = lines_ended

pub returns-clause-unended : goal.returns-clause-unended
returns-clause-unended c = lines_unended
