use Rattle.std.proofs.Common.{◌≡◌, ◌≤◌, ◌-◌, ℕ, List, [], ◌++◌, length, take, drop, Some}
use Rattle.dn_line.specs.declared.code.Code.{Code}
use Rattle.dn_arc_lines.specs.State.Reading.{ArcLinesAt, Hands, fault_of}
use Rattle.dn_arc_lines.proofs.arc_lines.ArcLines.feed.Given as goal

abbrev pub invariant-loop-used : goal.invariant-loop-used
invariant-loop-used l =
    record {
      within : l.used ≤ length l.piece;
      fits : l.count ≤ length l.out;
      again : (code : Code) → fault_of l.fn.self ≡ Some code → (l.used ≡ 0) × (l.count ≡ 0) × (l.self ≡ l.fn.self);
      rest : drop l.count l.out ≡ drop l.count l.fn.out;
      hands : (t : List ℕ) → ArcLinesAt l.fn.self t → Hands l.self t (t ++ take l.used l.piece) [] (take l.count l.out);
    }

abbrev pub decreases-loop-used : goal.decreases-loop-used
decreases-loop-used l = length l.piece - l.used
