use Rattle.std.proofs.Common.{◌≡◌, drop, ◌+ℤ◌, ◌≤ℤ◌, pos}
use Rattle.std.specs.List.{AllByRecursion}
use Rattle.dn_arc_theory.specs.Splits.{total}
use Rattle.dn_flow.proofs.flow.sum.Given as goal

-- the sum so far and that of the numbers that are left are the sum of all; where none of all is negative, none is left
-- that is
abbrev pub invariant-loop-number : goal.invariant-loop-number
invariant-loop-number l = record {
  sum : l.sum +ℤ total (drop l.number-index l.numbers) ≡ total l.numbers;
  some : pos 0 ≤ℤ l.sum;
  left : AllByRecursion (λ u. pos 0 ≤ℤ u) l.numbers
      → AllByRecursion (λ u. pos 0 ≤ℤ u) (drop l.number-index l.numbers);
}
