use Rattle.std.proofs.Common.{◌≡◌, length}
use Rattle.dn_arc_theory.specs.State.Steps.{has_step}
use Rattle.dn_bundle.proofs.steps.has_few.Given as goal

abbrev pub invariant-loop-left : goal.invariant-loop-left
invariant-loop-left l = has_step l.left l.cost ≡ has_step l.fn.few l.cost

abbrev pub decreases-loop-left : goal.decreases-loop-left
decreases-loop-left l = length l.left
