use Rattle.dn_arc_theory.proofs.OrdersLaws.{any_order}
use Rattle.dn_laws.proofs.bundles.laws.any_order_of.Goals as goal

pub returns : goal.returns
returns g c = any_order g.B.Bundle.bundle.kind.Same g.met.B.Bundle.laws.meaning
