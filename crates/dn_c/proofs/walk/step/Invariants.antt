use Rattle.std.proofs.Common.{◌≡◌, List, drop}
use Rattle.dn_c.specs.State.Walks.{IsLeft}
use Rattle.dn_c.proofs.walk.step.Given as goal

abbrev pub invariant-loop-pair : goal.invariant-loop-pair
invariant-loop-pair g l =
    let lists = g.B.Bundle.bundle.listed l.form in
    record {
      left : (left : List _) → IsLeft lists (drop l.index l.table) l.fn.last left → IsLeft lists l.pair-iterator l.taken
          left;
      stands : l.pair-iterator ≡ drop l.at l.table;
    }
