use Rattle.std.proofs.Common.{◌≡◌, ◌+◌, length}
use Rattle.dn_bundle.specs.State.Spots.{spot}
use Rattle.dn_bundle.proofs.steps.place_in.Given as goal

abbrev pub invariant-loop-left : goal.invariant-loop-left
invariant-loop-left l = record {
  place : l.place + spot l.left l.cost ≡ spot l.fn.few l.cost;
  whole : l.place + length l.left ≡ length l.fn.few;
}

abbrev pub decreases-loop-left : goal.decreases-loop-left
decreases-loop-left l = length l.left
