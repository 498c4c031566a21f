use Rattle.dn_compare.proofs.VerdictLaws.{one_first}
use Rattle.dn_laws.proofs.differences.laws.one_verdict.Goals as goal

pub returns : goal.returns
returns c = one_first
