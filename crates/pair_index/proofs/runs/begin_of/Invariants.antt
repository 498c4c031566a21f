use Rattle.std.proofs.Common.{◌≡◌, ℕ, ◌<◌, ◌≤◌, ℤ, List, length}
use Rattle.std.specs.Map.{keys_of}
use Rattle.pair_index.specs.State.Positions.{key_at}
use Rattle.pair_index.proofs.runs.begin_of.Given as goal

-- the entries from here on have the tail
pub record AllFrom (keys : List (ℤ × ℤ)) (begin : ℕ) (tail : ℤ) : Type 0 where
  pub within : begin ≤ length keys
  pub from : (i : ℕ) → begin ≤ i → i < length keys → (key_at keys i).0 ≡ tail

abbrev pub invariant-loop-begin : goal.invariant-loop-begin
invariant-loop-begin g l = AllFrom (keys_of l.entries) l.begin l.pair.0

abbrev pub decreases-loop-begin : goal.decreases-loop-begin
decreases-loop-begin g l = l.begin
