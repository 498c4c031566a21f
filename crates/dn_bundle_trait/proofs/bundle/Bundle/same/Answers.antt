use Rattle.std.proofs.Common.{rules}
use Rattle.dn_bundle_trait.proofs.bundle.Bundle.same.Goals as goal

pub returns : goal.returns
returns g c = search rules
