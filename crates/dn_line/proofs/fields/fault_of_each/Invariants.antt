use Rattle.std.proofs.Common.{◌≡◌, drop}
use Rattle.std.specs.List.{zip}
use Rattle.dn_line.specs.State.Fields.{earlier, pairs_fault}
use Rattle.dn_line.proofs.fields.fault_of_each.Given as goal

-- the earlier of the fault so far and the first fault of the rest is the first fault of all
abbrev pub invariant-loop-i : goal.invariant-loop-i
invariant-loop-i l =
    earlier l.found (pairs_fault (zip (drop l.i l.fields) (drop l.i l.words))) ≡ pairs_fault (zip l.fields l.words)
