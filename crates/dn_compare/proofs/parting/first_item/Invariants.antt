use Rattle.std.proofs.Common.{◌≡◌, ℕ, ◌≤◌}
use Rattle.dn_compare.specs.Observed.{item_at}
use Rattle.dn_compare.proofs.parting.first_item.Given as goal

-- the items so far are equal
abbrev pub invariant-loop-i : goal.invariant-loop-i
invariant-loop-i g l = (j : ℕ) → j ≤ l.i → item_at l.left j ≡ item_at l.right j
