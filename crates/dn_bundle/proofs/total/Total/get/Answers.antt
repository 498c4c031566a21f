use Rattle.std.proofs.Common.{rules}
use Rattle.dn_bundle.proofs.total.Total.get.Goals as goal

pub returns : goal.returns
returns c = search rules
