use Rattle.dn_compare.proofs.VerdictLaws.{same_first}
use Rattle.dn_laws.proofs.differences.laws.same_exactly.Goals as goal

pub returns : goal.returns
returns c = λ I J. ((λ f. f.true_of), same_first I J)
