use Rattle.std.proofs.Common.{◌≡◌, length, take}
use Rattle.dn_line.specs.State.RowBlocks.{ReadUpTo}
use Rattle.dn_line.specs.State.Rows.{HasFields}
use Rattle.dn_line.specs.declared.kind.Kind.{Kind}
use Rattle.dn_line.proofs.row_block.fill.Given as goal

abbrev pub invariant-loop-i : goal.invariant-loop-i
invariant-loop-i g l =
    record {
      long : length l.rows ≡ 16;
      rows : (kind : Kind) → HasFields kind l.letter l.fields → ReadUpTo kind l.letter l.bytes (take l.i l.rows) l.rest;
    }
