-- The row of the words of a line, and the item of a row.
use Rattle.std.specs.Prelude.{◌≡◌, ℤ, pos, List, cond, slice_get, Option, Some, None, Result, Ok, Err}
use Rattle.std.specs.Ordering.{int_eq}
use Rattle.dn_line.specs.Words.{tail}
use Rattle.dn_line.specs.LineTable.{fields_of, counts, after_name}
use Rattle.dn_line.specs.Faults.{first_fault, field_tests}
use Rattle.dn_line.specs.State.Fields.{filled_fields}
use Rattle.dn_line.specs.Reading.{num, unless}
use Rattle.dn_line.specs.State.LineReads.{head_read, fields_read}
use Rattle.dn_line.specs.declared.code.Code.{Code}
use Rattle.dn_line.specs.declared.kind.Kind.{Kind}
use Rattle.dn_line.specs.declared.kind.Kind.TheVariants.{Min, Max, Sp, Ss, P2p, Co}
use Rattle.dn_line.specs.declared.kind.Letter.{Letter}
use Rattle.dn_line.specs.declared.kind.Letter.TheVariants as Letters
use Rattle.dn_line.specs.declared.line.Head.{Head}
use Rattle.dn_line.specs.declared.line.Head.TheVariants as Heads
use Rattle.dn_line.specs.declared.line.Line.{Line}
use Rattle.dn_line.specs.declared.line.Line.TheVariants as Items
use Rattle.dn_line.specs.declared.row.Row.{Row}
use Rattle.dn_line.specs.declared.word.Field.{Field}
use Rattle.dn_line.specs.declared.word.Field.TheVariants.{Number, Natural, Terminal}
use Rattle.dn_line.specs.declared.word.Keyword.{Keyword}
use Rattle.dn_line.specs.declared.word.Keyword.TheVariants as Key
use Rattle.dn_line.specs.declared.word.Word.{Word}

-- the number of a terminal in a row: 0 for `s`, and 1 for `t`
abbrev pub terminal_number : Option Keyword → ℤ
terminal_number (Some Key.S) = pos 0
terminal_number _ = pos 1

-- the terminal of this number
abbrev pub letter_named : ℤ → Letter
letter_named n = cond (int_eq n (pos 0)) Letters.S Letters.T

-- the number of a word in this field
abbrev pub field_value : Field → Word → ℤ
field_value Number w = num w
field_value Natural w = num w
field_value Terminal w = terminal_number w.keyword

-- the number of a word in its field, or 0 if there is no field or no word
abbrev pub number_in : Option Field → Option Word → ℤ
number_in (Some f) (Some w) = field_value f w
number_in (Some f) None = pos 0
number_in None w = pos 0

-- the row of the words that fill these fields
abbrev pub filled_row : List Field → List Word → Row
filled_row fs ws = record {
  first = number_in (slice_get fs 0) (slice_get ws 0);
  second = number_in (slice_get fs 1) (slice_get ws 1);
  third = number_in (slice_get fs 2) (slice_get ws 2);
  fourth = number_in (slice_get fs 3) (slice_get ws 3);
  fifth = number_in (slice_get fs 4) (slice_get ws 4);
}

-- the problem that the row of a problem line of this kind declares
abbrev pub problem_item : Kind → Row → Line
problem_item Min r = Items.Graph Min r.first r.second
problem_item Max r = Items.Graph Max r.first r.second
problem_item Sp r = Items.Graph Sp r.first r.second
problem_item Ss r = Items.Aux Ss r.first
problem_item P2p r = Items.Aux P2p r.first
problem_item Co r = Items.Aux Co r.first

-- the item of the row of a line with this head, in a text of this kind
abbrev pub item_of_row : Head → Option Kind → Row → Line
item_of_row (Heads.Problem kind) known r = problem_item kind r
item_of_row Heads.Node (Some Min) r = Items.Supply r.first r.second
item_of_row Heads.Node (Some Max) r = Items.Terminal r.first (letter_named r.second)
item_of_row Heads.Arc (Some Min) r = Items.MinArc r.first r.second r.third r.fourth r.fifth
item_of_row Heads.Arc (Some Max) r = Items.MaxArc r.first r.second r.third
item_of_row Heads.Arc (Some Sp) r = Items.SpArc r.first r.second r.third
item_of_row Heads.Source (Some Ss) r = Items.Source r.first
item_of_row Heads.Query (Some P2p) r = Items.Query r.first r.second
item_of_row Heads.Point (Some Co) r = Items.Point r.first r.second r.third
item_of_row _ _ r = Items.Skip

-- the fields of a line with this head, in a text of this kind
abbrev pub fields_at : Head → Option Kind → Option (List Field)
fields_at Heads.Skip known = None
fields_at (Heads.Problem kind) known = Some (counts kind)
fields_at Heads.Node (Some kind) = fields_of kind Key.N
fields_at Heads.Arc (Some kind) = fields_of kind Key.A
fields_at Heads.Source (Some kind) = fields_of kind Key.S
fields_at Heads.Query (Some kind) = fields_of kind Key.Q
fields_at Heads.Point (Some kind) = fields_of kind Key.V
fields_at _ None = None

-- the words that fill the fields of a line with this head
abbrev pub after_head : Head → List Word → List Word
after_head (Heads.Problem kind) ws = after_name kind (tail ws)
after_head _ ws = tail ws

-- the row of a line without numbers
abbrev pub no_row : Row
no_row = record { first = pos 0; second = pos 0; third = pos 0; fourth = pos 0; fifth = pos 0 }

-- the row of the words that fill these fields, if there are any
abbrev pub row_at : Option (List Field) → List Word → Row
row_at None ws = no_row
row_at (Some fs) ws = filled_row fs ws

-- the row of a line with this head, or the first fault of its fields
abbrev pub row_read : Option Kind → Head → List Word → Result Row Code
row_read known head ws =
    unless (first_fault (field_tests (filled_fields (fields_at head known) (after_head head ws))))
    (row_at (fields_at head known) (after_head head ws))

-- the item of the row if there is one, and the fault otherwise
abbrev pub item_read : Head → Option Kind → Result Row Code → Result Line Code
item_read head known (Ok r) = Ok (item_of_row head known r)
item_read head known (Err code) = Err code

-- if the checks of the head return this head, then the item of the row, or the fault, is what the checks of the fields
-- return
abbrev pub RowRead : Option Kind → Head → List Word → Result Row Code → Type 0
RowRead known head ws result = head_read known ws ≡ Ok head → item_read head known result ≡ fields_read known ws
