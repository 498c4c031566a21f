use Rattle.dn_laws.proofs.openers.examples.handed.Goals as goal

pub returns : goal.returns
returns g c name b hands known = rw known at hands.1
