-- What the state of a reader of arc lines represents.
use Rattle.std.specs.Prelude.{◌≡◌, ℕ, ◌+◌, ◌-◌, ◌^◌, ◌<◌, List, [], ◌∷◌, ◌++◌, length, cond, Option, Some, None, is_some}
use Rattle.std.specs.Option.{option_map}
use Rattle.dn_line.specs.declared.kind.Kind.{Kind}
use Rattle.dn_line.specs.declared.code.Code.{Code}
use Rattle.dn_line.specs.declared.row.Row.{Row}
use Rattle.dn_line.specs.declared.row_block.RowLine.{RowLine}
use Rattle.dn_instance.specs.Readers.{ended}
use Rattle.dn_instance.specs.State.ReaderStates.{HasOpen, open_of}
use Rattle.dn_instance.specs.State.TextsSoFar.{AreInner, closed_lines}
use Rattle.dn_arc_lines.specs.declared.arc_line.ArcLine.{ArcLine}
use Rattle.dn_arc_lines.specs.declared.arc_lines.ArcLines.{ArcLines}
use Rattle.dn_arc_lines.specs.State.ArcLines.{arc_lines_from, fault_from, kind_then, read_by_itself}

-- the fault of the line at which the reader stopped, if it did
abbrev pub fault_of : ArcLines → Option Code
fault_of r = r.fault

-- the kind that is known after these lines, which follow n lines after which this kind is known
abbrev pub kind_after : Option Kind → ℕ → List (List ℕ) → Option Kind
kind_after known n [] = known
kind_after known n (l ∷ ls) = kind_after (kind_then known (read_by_itself known (n + 1) l)) (n + 1) ls

-- after these complete lines this kind is known; there are so many without a fault, and one more if there is a fault,
-- which is then the first
pub record Counted (known : Option Kind) (number : ℕ) (fault : Option Code) (ls : List (List ℕ)) : Type 0 where
  pub known_is : known ≡ kind_after None 0 ls
  pub number_is : length ls ≡ number + cond (is_some fault) 1 0
  pub few : number < 2 ^ 63 - 1
  pub fault_is : option_map (λ (code : Code). (number + 1, code)) fault ≡ fault_from None 0 ls

-- the reader has taken these complete lines
abbrev pub HasLines : ArcLines → List (List ℕ) → Type 0
HasLines r ls = Counted r.known r.number r.fault ls

-- the reader represents these bytes; if it has stopped at a line, no byte follows that line
pub record ArcLinesAt (r : ArcLines) (t : List ℕ) : Type 0 where
  pub read : HasLines r (ended t)
  pub line : HasOpen r.line (open_of t)
  pub stops : (code : Code) → fault_of r ≡ Some code → open_of t ≡ []

-- the reader has taken these lines after the earlier ones, and `out` is the front followed by their arc lines
pub record Adds (r : ArcLines) (ls more : List (List ℕ)) (front out : List ArcLine) : Type 0 where
  pub read : HasLines r (ls ++ more)
  pub rows : List ArcLine
  pub out_is : out ≡ front ++ rows
  pub rows_are : arc_lines_from None 0 (ls ++ more) ≡ arc_lines_from None 0 ls ++ rows

-- the bytes are complete lines, which the reader has taken after the earlier ones
pub record TakesLines (r : ArcLines) (ls : List (List ℕ)) (bytes : List ℕ) (front out : List ArcLine) : Type 0 where
  pub more : List (List ℕ)
  pub whole : closed_lines more ≡ bytes
  pub inner : AreInner more
  pub adds : Adds r ls more front out

-- the reader represents the bytes u, which begin with t, and `out` is the front followed by the arc lines of u that t
-- does not have
pub record Hands (r : ArcLines) (t u : List ℕ) (front out : List ArcLine) : Type 0 where
  pub stands : ArcLinesAt r u
  pub rows : List ArcLine
  pub out_is : out ≡ front ++ rows
  pub rows_are : arc_lines_from None 0 (ended u) ≡ arc_lines_from None 0 (ended t) ++ rows

-- the arc line of the row of the line with this number
abbrev pub arc_line_of_row : ℕ → Row → ArcLine
arc_line_of_row n r = record { line = n; tail = r.first; head = r.second; a = r.third; b = r.fourth; c = r.fifth }

-- the arc lines of these rows, which follow n lines
abbrev pub numbered : ℕ → List RowLine → List ArcLine
numbered n [] = []
numbered n (r ∷ rows) = arc_line_of_row (n + 1) r.row ∷ numbered (n + 1) rows
