use Rattle.std.proofs.Common.{length}
use Rattle.dn_bundle.proofs.GapLaws.{IsWalk}
use Rattle.dn_bundle.proofs.difference.first_gap.Given as goal

abbrev pub invariant-loop-l : goal.invariant-loop-l
invariant-loop-l l =
    IsWalk l.initial.amount l.initial.cost l.initial.left l.initial.right l.amount l.cost l.left l.right

abbrev pub decreases-loop-l : goal.decreases-loop-l
decreases-loop-l l = length l.left
