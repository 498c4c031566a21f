-- Consecutive lines of a letter and numbers at the beginning of longer bytes.
use Rattle.std.specs.Prelude.{◌≡◌, ℕ, List, [], ◌∷◌, get_or, length}
use Rattle.dn_line.specs.State.Rows.{BeginsWithRow, HasFields}
use Rattle.dn_line.specs.declared.kind.Kind.{Kind}
use Rattle.dn_line.specs.declared.row_block.RowLine.{RowLine}
use Rattle.dn_line.specs.declared.word.Field.{Field}

-- the bytes are the line of this row, with this letter and the fields that it has in a text of this kind, followed by
-- the rest, whose length the row records
pub record IsRowLine (kind : Kind) (letter : ℕ) (bytes : List ℕ) (r : RowLine) (rest : List ℕ) : Type 0 where
  pub fields : List Field
  pub in_table : HasFields kind letter fields
  pub begins : BeginsWithRow letter fields bytes r.row rest
  pub left : r.left ≡ length rest

-- the bytes are the lines of these rows, each with this letter, followed by the rest
abbrev pub ReadUpTo : Kind → ℕ → List ℕ → List RowLine → List ℕ → Type 0
ReadUpTo kind letter bytes [] rest = bytes ≡ rest
ReadUpTo kind letter bytes (r ∷ rows) rest =
    (next : List ℕ) × IsRowLine kind letter bytes r next × ReadUpTo kind letter next rows rest

-- the bytes begin with the lines of these rows, each with this letter, in a text of any kind that has these fields for
-- the letter
abbrev pub AreRowsOf : ℕ → List Field → List ℕ → List RowLine → Type 0
AreRowsOf letter fields bytes rows =
    (kind : Kind) → HasFields kind letter fields → (rest : List ℕ) × ReadUpTo kind letter bytes rows rest

-- the bytes begin with the lines of these rows, each with the letter that is the first byte
abbrev pub BeginWithRows : Kind → List ℕ → List RowLine → Type 0
BeginWithRows kind bytes rows = (rest : List ℕ) × ReadUpTo kind (get_or bytes 0 0) bytes rows rest

-- the count of bytes that follow the last of these lines, or of all bytes if there are no lines
abbrev pub last_left : ℕ → List RowLine → ℕ
last_left all [] = all
last_left all (r ∷ rows) = last_left r.left rows
