use Rattle.std.proofs.Common.{◌≡◌, ◌≤◌, length, take}
use Rattle.dn_sink.proofs.matcher.same_prefix.Given as goal

abbrev pub invariant-loop-i : goal.invariant-loop-i
invariant-loop-i l = (l.i ≤ length l.text) × (take l.i l.text ≡ take l.i l.piece)
