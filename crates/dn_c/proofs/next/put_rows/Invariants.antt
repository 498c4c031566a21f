use Rattle.std.proofs.Common.{◌≡◌, ◌≤◌, List, take, drop, length}
use Rattle.dn_c.specs.State.Rows.{rows_by}
use Rattle.dn_c.specs.State.Walks.{CopiesListed, HasRows, IsLeft}
use Rattle.dn_c.proofs.next.put_rows.Given as goal

abbrev pub invariant-loop-at : goal.invariant-loop-at
invariant-loop-at g l =
    let lists = g.B.Bundle.bundle.listed l.form in
    record {
      fills : (left : List _) → IsLeft lists (drop l.index l.table) l.fn.last left
          → HasRows l.out (rows_by g.B.Arc.Parts.numbers (take l.at left))
          × (l.at ≤ length left) × IsLeft lists (drop l.spot l.table) l.taken (drop l.at left);
      listed : CopiesListed g.B.Arc.Parts.numbers lists l.table l.out l.at;
      kept : length l.out ≡ l.room;
    }
