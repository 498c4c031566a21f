use Rattle.dn_answers.proofs.ReportLaws.{reported}
use Rattle.dn_answers.proofs.parallel.reported.Goals as goal

pub returns : goal.returns
returns c = reported
