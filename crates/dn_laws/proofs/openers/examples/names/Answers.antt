use Rattle.std.proofs.Common.{refl}
use Rattle.dn_laws.proofs.openers.examples.names.Goals as goal

pub returns : goal.returns
returns g c = record { input = λ o. refl; file = λ o. refl; opened = λ o h. cc (h.0) }
