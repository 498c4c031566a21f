use Rattle.std.proofs.Common.{◌≡◌, true, take}
use Rattle.std.specs.List.{list_all}
use Rattle.dn_line.specs.Words.{is_blank}
use Rattle.dn_line.proofs.numbers.past_blanks.Given as goal

abbrev pub invariant-loop-i : goal.invariant-loop-i
invariant-loop-i l = record { blank : list_all is_blank (take l.i l.bytes) ≡ true }
