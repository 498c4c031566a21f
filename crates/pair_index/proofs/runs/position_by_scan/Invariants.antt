use Rattle.std.proofs.Common.{◌≡◌, ℕ, ◌<◌, ◌≤◌}
use Rattle.std.specs.Map.{keys_of}
use Rattle.pair_index.specs.State.Positions.{key_at}
use Rattle.pair_index.proofs.runs.position_by_scan.Given as goal

-- no entry so far has the pair
abbrev pub invariant-loop-i : goal.invariant-loop-i
invariant-loop-i g l = (k : ℕ) → l.begin ≤ k → k < l.i → key_at (keys_of l.entries) k ≡ l.pair → ⊥
