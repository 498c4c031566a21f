-- The heads and the items of rows.
use Rattle.std.specs.Prelude.{◌≡◌, ◌⊎◌, ℕ, nat_eq, cond, pos, ◌≤ℤ◌, List, true, false, Some}
use Rattle.dn_line.specs.State.RowItems.{item_of_row}
use Rattle.dn_line.specs.declared.kind.Kind.{Kind}
use Rattle.dn_line.specs.declared.kind.Kind.TheVariants.{Min, Max, Sp, Ss, P2p, Co}
use Rattle.dn_line.specs.declared.line.Head.{Head}
use Rattle.dn_line.specs.declared.line.Head.TheVariants as Heads
use Rattle.dn_line.specs.declared.line.Line.{Line}
use Rattle.dn_line.specs.declared.line.Line.TheVariants as Item
use Rattle.dn_line.specs.declared.row.Row.{Row}
use Rattle.dn_instance.specs.Items.{counted, is_counted, problem_of}
use Rattle.dn_instance.specs.TextFaults.{is_full}

-- the head of the counted lines of a text of this kind
abbrev pub counted_head : Kind → Head
counted_head Min = Heads.Arc
counted_head Max = Heads.Arc
counted_head Sp = Heads.Arc
counted_head Ss = Heads.Source
counted_head P2p = Heads.Query
counted_head Co = Heads.Point

-- lines of rows have this head in a text of this kind: they are counted, or they are `min` node lines
abbrev pub IsRowHead : Kind → Head → Type 0
IsRowHead kind head = ((head ≡ Heads.Node) × (kind ≡ Min)) ⊎ (head ≡ counted_head kind)

-- the head of the lines of rows that begin with this byte, where 110 is the byte of `n`
abbrev pub run_head : Kind → ℕ → Head
run_head Min byte = cond (nat_eq byte 110) Heads.Node Heads.Arc
run_head kind byte = counted_head kind

-- the counted item of a row, in a text of this kind
abbrev pub counted_line : Kind → Row → Line
counted_line kind = item_of_row (counted_head kind) (Some kind)

-- LOW, CAP, ARCS and K are at least 0
abbrev pub HasSigns : Line → Type 0
HasSigns (Item.Graph kind nodes arcs) = pos 0 ≤ℤ arcs
HasSigns (Item.Aux kind count) = pos 0 ≤ℤ count
HasSigns (Item.MinArc src dst low cap cost) = (pos 0 ≤ℤ low) × (pos 0 ≤ℤ cap)
HasSigns (Item.MaxArc src dst cap) = pos 0 ≤ℤ cap
HasSigns _ = Unit {0}

-- if the item is counted, it does not follow as many counted lines as declared
abbrev pub HasRoomFor : List Line → Line → Type 0
HasRoomFor items i = is_counted i ≡ true → is_full (problem_of items) (counted items) ≡ false
