use Rattle.std.proofs.Common.{◌≡◌, slice_get}
use Rattle.dn_bundle.proofs.steps.Steps.get.Given as goal

abbrev pub invariant-loop-step : goal.invariant-loop-step
invariant-loop-step l = slice_get l.step-iterator l.left ≡ slice_get l.self l.fn.i
