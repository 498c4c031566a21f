use Rattle.dn_laws.proofs.differences.SomeVerdict.{some_first}
use Rattle.dn_laws.proofs.differences.laws.some_verdict.Goals as goal

pub returns : goal.returns
returns c = some_first
