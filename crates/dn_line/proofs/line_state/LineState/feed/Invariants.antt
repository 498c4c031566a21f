use Rattle.std.proofs.Common.{ℕ, List, length}
use Rattle.dn_line.specs.State.LineStates.{FedUpTo, Reached}
use Rattle.dn_line.proofs.line_state.LineState.feed.Given as goal

abbrev pub invariant-loop-rest : goal.invariant-loop-rest
invariant-loop-rest l = (s : List ℕ) → Reached l.fn.self s → FedUpTo l.self s l.fn.piece l.rest

abbrev pub decreases-loop-rest : goal.decreases-loop-rest
decreases-loop-rest l = length l.rest
