use Rattle.dn_compare.proofs.VerdictLaws.{first_by_meaning}
use Rattle.dn_laws.proofs.differences.laws.by_meaning.Goals as goal

pub returns : goal.returns
returns c = first_by_meaning
