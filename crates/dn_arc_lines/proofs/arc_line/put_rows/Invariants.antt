use Rattle.std.proofs.Common.{◌≡◌, ◌+◌, ◌++◌, length, take, drop}
use Rattle.dn_arc_lines.specs.State.Reading.{numbered}
use Rattle.dn_arc_lines.proofs.arc_line.put_rows.Given as goal

abbrev pub invariant-loop-i : goal.invariant-loop-i
invariant-loop-i l =
    record {
      kept : length l.out ≡ length l.fn.out;
      rest : drop (l.at + l.i) l.out ≡ drop (l.at + l.i) l.fn.out;
      rows : take (l.at + l.i) l.out ≡ take l.at l.fn.out ++ numbered l.number (take l.i l.rows);
    }
