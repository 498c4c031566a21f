use Rattle.std.proofs.Common.{◌≡◌, ℕ, ℤ, pos, List, ◌++◌, length, take, drop}
use Rattle.std.specs.List.{All, AllByRecursion}
use Rattle.dn_line.specs.State.Numbers.{AreNumbers}
use Rattle.dn_line.proofs.NumbersLaws.{Kept}
use Rattle.dn_line.proofs.row.numbers.Given as goal

-- the numbers so far, before a line of numbers that the rest begins with, are a line of numbers
abbrev pub invariant-loop-i : goal.invariant-loop-i
invariant-loop-i l =
    record {
      five : length l.all ≡ 5;
      kept : All Kept l.all;
      more : (ns : List ℤ) (end : List ℕ) → AreNumbers l.rest ns end → AreNumbers l.bytes (take l.i l.all ++ ns) end;
      others : AllByRecursion (λ n. n ≡ pos 0) (drop l.i l.all);
    }
