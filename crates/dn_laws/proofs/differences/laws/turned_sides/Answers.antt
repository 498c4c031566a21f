use Rattle.dn_compare.proofs.VerdictLaws.{first_turned}
use Rattle.dn_laws.proofs.differences.laws.turned_sides.Goals as goal

pub returns : goal.returns
returns c = first_turned
