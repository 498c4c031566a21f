use Rattle.std.proofs.Common.{◌≡◌, length}
use Rattle.dn_arc_theory.specs.State.Steps.{step_past}
use Rattle.dn_bundle.proofs.steps.past_few.Given as goal

abbrev pub invariant-loop-left : goal.invariant-loop-left
invariant-loop-left l = step_past l.left l.cost ≡ step_past l.fn.few l.cost

abbrev pub decreases-loop-left : goal.decreases-loop-left
decreases-loop-left l = length l.left
