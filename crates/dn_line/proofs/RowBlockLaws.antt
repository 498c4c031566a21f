-- Consecutive lines of a letter and numbers.
use Rattle.std.proofs.Common.{◌≡◌, ℕ, List, [], ◌∷◌, ◌++◌, refl, length, get_or, arith, zero, suc}
use Rattle.dn_line.specs.State.RowBlocks.{IsRowLine, ReadUpTo, last_left}
use Rattle.dn_line.specs.declared.kind.Kind.{Kind}
use Rattle.dn_line.specs.declared.row_block.RowLine.{RowLine}

-- one more row after the lines that were read
pub row_more : (kind : Kind) (letter : ℕ) (bytes rest next : List ℕ) (rows : List RowLine) (r : RowLine)
    → ReadUpTo kind letter bytes rows rest → IsRowLine kind letter rest r next
    → ReadUpTo kind letter bytes (rows ++ r ∷ []) next
row_more kind letter bytes rest next [] r h b = (next, rw h b, refl)
row_more kind letter bytes rest next (x ∷ rows) r h b =
    (h.0, h.1, row_more kind letter h.0 rest next rows r h.2 b)

-- the last row records how many bytes follow all lines
pub last_tells : (all : ℕ) (rows : List RowLine) (k : ℕ) (d : RowLine) → suc k ≡ length rows
    → (get_or rows k d).left ≡ last_left all rows
last_tells all (r ∷ []) zero d h = refl
last_tells all (r ∷ x ∷ rows) (suc k) d h = last_tells r.left (x ∷ rows) k d (omega arith)
last_tells all _ _ d h = absurd (omega arith)
