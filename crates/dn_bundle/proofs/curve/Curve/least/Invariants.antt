use Rattle.dn_bundle.proofs.WalkLaws.{IsTaken}
use Rattle.dn_bundle.proofs.curve.Curve.least.Given as goal

abbrev pub invariant-loop-step : goal.invariant-loop-step
invariant-loop-step l = IsTaken l.self.units l.self.cost l.self.steps l.fn.x l.taken l.cost l.step-iterator
