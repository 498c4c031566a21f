-- What the complete lines so far make, and what the next line reads as after them.
use Rattle.std.specs.Prelude.{◌≡◌, ℕ, ◌+◌, ◌-◌, ◌^◌, ◌<◌, pos, ◌<ℤ◌, ◌≤ℤ◌, ◌+ℤ◌, List, [], ◌∷◌, ◌++◌, length, cond, true, false, flat_map, Option, Some, None, Result, Ok, Err, IsSome, int_lt}
use Rattle.std.specs.List.{list_all, list_any, AllByRecursion}
use Rattle.std.specs.Option.{option_map}
use Rattle.dn_line.specs.declared.kind.Kind.{Kind}
use Rattle.dn_line.specs.declared.line.Head.{Head}
use Rattle.dn_line.specs.declared.line.Head.TheVariants as Heads
use Rattle.dn_line.specs.declared.line.Line.{Line}
use Rattle.dn_line.specs.declared.line.Line.TheVariants.{Skip}
use Rattle.dn_line.specs.declared.row.Row.{Row}
use Rattle.dn_line.specs.declared.row_block.RowLine.{RowLine}
use Rattle.dn_line.specs.declared.word.Word.{Word}
use Rattle.dn_line.specs.declared.code.Code.{Code}
use Rattle.dn_line.specs.Words.{is_skip, first, said_words}
use Rattle.dn_line.specs.LineTable.{kind_named}
use Rattle.dn_line.specs.State.LineReads.{head_of}
use Rattle.dn_line.specs.State.LineStates.{LineSoFar, LineReaderAt, is_inner}
use Rattle.dn_line.specs.declared.line_reader.LineReader.{LineReader}
use Rattle.dn_line.specs.Faults.{first_fault, head_tests, field_tests, fields}
use Rattle.dn_line.specs.State.Spelling.{slots_of, kind_before}
use Rattle.dn_line.specs.Reading.{unless, spelled}
use Rattle.dn_line.specs.State.RowBlocks.{ReadUpTo, last_left}
use Rattle.dn_line.specs.State.RowItems.{item_of_row}
use Rattle.dn_instance.specs.Items.{Problem, problem_in, problem_of, kind_known, counted}
use Rattle.dn_instance.specs.Readers.{SpellsNeed}
use Rattle.dn_instance.specs.TextFaults.{is_arc, line_fault, line_tests, order_tests}
use Rattle.dn_instance.specs.Texts.{items_of, IsClean}
use Rattle.dn_instance.specs.State.TextParts.{AnyBody, BodyHolds, DescriptorsHold, body_kind, is_graph}
use Rattle.dn_instance.specs.State.Bodies.{TookRow}
use Rattle.dn_instance.specs.State.RowHeads.{HasRoomFor, HasSigns, run_head}
use Rattle.dn_instance.specs.declared.refusal.ItemFault.{ItemFault}
use Rattle.dn_instance.specs.declared.text_so_far.TextSoFar.{TextSoFar}

-- the kind that the problem line declares; before the problem line, there is none
abbrev pub text_kind : TextSoFar → Option Kind
text_kind t = option_map body_kind t.body

-- the problem of this kind with the numbers of the problem line
abbrev pub problem_as : TextSoFar → Kind → Problem
problem_as t kind = record { kind = kind; nodes = t.nodes; count = t.count }

-- the body, if there is one, holds what the counted ones of these items make; without a body, there are no items
abbrev pub HoldsBody : Option AnyBody → List Line → Type 0
HoldsBody None items = items ≡ []
HoldsBody (Some b) items = BodyHolds b items

-- the text so far has read these items
pub record HasRead (t : TextSoFar) (items : List Line) : Type 0 where
  pub problem_is : problem_of items ≡ option_map (problem_as t) (text_kind t)
  pub count_fits : t.count <ℤ pos (2 ^ 63)
  pub due_is : pos (counted items) +ℤ t.due ≡ t.count
  pub due_some : pos 0 ≤ℤ t.due
  pub arcs_are : is_graph (text_kind t) ≡ true → list_any is_arc items ≡ int_lt t.due t.count
  pub descriptors_hold : DescriptorsHold t.descriptors items
  pub body_holds : HoldsBody t.body items

-- what a line reads as after these items, where the faults of its item are not checked
abbrev pub next_read : List Line → List Word → Result Line Code
next_read before ws =
    let known = kind_known before in
    let faults = head_tests known ws ++ (order_tests before ws ++ field_tests (fields known ws)) in
    cond (is_skip ws) (Ok Skip) (unless (first_fault faults) (spelled known ws))

-- a line after these items can spell this item: the item belongs to the known kind, its LOW, CAP, ARCS and K are at
-- least 0, and if it is counted, there are not as many counted lines as declared
pub record MayFollow (before : List Line) (i : Line) : Type 0 where
  pub kind_is : kind_known before ≡ kind_before i
  pub spelled : IsSome (slots_of i)
  pub signs : HasSigns i
  pub room : HasRoomFor before i

-- the text so far has read these items, and this item may follow them
pub record AwaitsRow (t : TextSoFar) (before : List Line) (i : Line) : Type 0 where
  pub read : HasRead t before
  pub may : MayFollow before i

-- the new text has read, after the items of the old one, a line that declares this problem, if the line may follow
abbrev pub Declares : TextSoFar → TextSoFar → Problem → Type 0
Declares old new p =
    (before : List Line) (i : Line) → AwaitsRow old before i → problem_in i ≡ Some p → pos 0 ≤ℤ p.count
    → HasRead new (before ++ i ∷ [])

-- the new text has read this item after the items of the old one, if it may follow them
abbrev pub TakesItem : TextSoFar → TextSoFar → Line → Type 0
TakesItem old new i = (before : List Line) → AwaitsRow old before i → HasRead new (before ++ i ∷ [])

-- this holds of any items that the text so far has read and of the words of the line that the line reader represents
abbrev pub AtLine : TextSoFar → LineReader → (List Line → List Word → Type 0) → Type 0
AtLine t r P = (items : List Line) (l : LineSoFar) → HasRead t items → LineReaderAt r l → P items (said_words l.bytes)

-- the fault is the first that a line with this head has because of the items before it, if its head has none
abbrev pub IsOrderFault : TextSoFar → Head → Option Code → Type 0
IsOrderFault t head fault =
    (before : List Line) (ws : List Word) → HasRead t before → first_fault (head_tests (text_kind t) ws) ≡ None
    → head ≡ head_of (first ws) (kind_named ws) → fault ≡ first_fault (order_tests before ws)

-- the row of a line with this head is taken after any items that the old text has read and that its item may follow
abbrev pub TakesRowOf : TextSoFar → TextSoFar → Head → Row → Result (Unit {0}) ItemFault → Type 0
TakesRowOf old new head row result =
    let i = item_of_row head (text_kind old) row in
    (before : List Line) → AwaitsRow old before i → TookRow before (HasRead new) i result

-- the next line reads as the item of a row of a line with this head, or it has this fault; a skipped line has the head
-- `Skip`
abbrev pub NextRead : Option Kind → List Line → List Word → Result (Head × Row) Code → Type 0
NextRead known before ws (Ok p) =
    (next_read before ws ≡ Ok (item_of_row p.0 known p.1)) × (is_skip ws ≡ true → p.0 ≡ Heads.Skip)
NextRead known before ws (Err code) = next_read before ws ≡ Err code

-- the first fault of a line after these items, except `TooLong`
abbrev pub fault_next : List Line → List Word → Option Code
fault_next before ws = cond (is_skip ws) None (first_fault (line_tests before ws))

-- the text so far has read these lines; no line has a fault, and there are fewer than 2^63 - 1 lines
pub record TextAt (t : TextSoFar) (ls : List (List ℕ)) : Type 0 where
  pub clean : IsClean ls
  pub few : length ls < 2 ^ 63 - 1
  pub number_is : t.closed ≡ length ls
  pub items_are : HasRead t (items_of ls)

-- this holds of any lines that the text so far has read and of the line that the line reader represents
abbrev pub AfterLines : TextSoFar → LineReader → (List (List ℕ) → List ℕ → Type 0) → Type 0
AfterLines t r P = (ls : List (List ℕ)) (l : LineSoFar) → TextAt t ls → LineReaderAt r l → P ls l.bytes

-- after these lines, the next line is not skipped, and reads as the item of this row of a line with this head
pub record IsLineOf (t : TextSoFar) (head : Head) (row : Row) (ls : List (List ℕ)) (l : List ℕ) : Type 0 where
  pub counts : is_skip (said_words l) ≡ false
  pub reads : next_read (items_of ls) (said_words l) ≡ Ok (item_of_row head (text_kind t) row)

-- this holds of any lines that the text so far has read and of the next line, if that is the line of this row
abbrev pub AfterRow : TextSoFar → Head → Row → (List (List ℕ) → List ℕ → Type 0) → Type 0
AfterRow t head row P = (ls : List (List ℕ)) (l : List ℕ) → TextAt t ls → IsLineOf t head row ls l → P ls l

-- the first fault of a line after these lines
abbrev pub fault_after : List (List ℕ) → List ℕ → Option Code
fault_after ls line = line_fault (length ls + 1) (items_of ls) (said_words line)

-- the line spells an item that needs memory after these lines
abbrev pub NeedsAfter : List (List ℕ) → List ℕ → Type 0
NeedsAfter ls line = SpellsNeed (items_of ls) (said_words line)

-- the lines, each followed by its LF
abbrev pub closed_lines : List (List ℕ) → List ℕ
closed_lines ls = flat_map (λ l. l ++ 10 ∷ []) ls

-- no line contains an LF
abbrev pub AreInner : List (List ℕ) → Type 0
AreInner ls = AllByRecursion (λ l. list_all is_inner l ≡ true) ls

-- after the lines `ls`, the text so far has read more lines; these, each followed by its LF, and the rest are the bytes
pub record ReadsOn (t : TextSoFar) (ls : List (List ℕ)) (bytes rest : List ℕ) : Type 0 where
  pub more : List (List ℕ)
  pub whole : closed_lines more ++ rest ≡ bytes
  pub inner : AreInner more
  pub read : TextAt t (ls ++ more)

-- if the next lines, at most this many, have this head, none of them has a fault because of the lines before it
pub record ComeInTime (t : TextSoFar) (head : Head) (most : ℕ) : Type 0 where
  pub early : head ≡ Heads.Node → t.count ≤ℤ t.due
  pub room : (head ≡ Heads.Node → ⊥) → pos most ≤ℤ t.due

-- what is left of these bytes begins with the lines of these rows of this head, which come in time, up to the end
pub record LeftOf (t : TextSoFar) (ls : List (List ℕ)) (bytes end : List ℕ) (head : Head) (rows : List RowLine)
    : Type 0 where
  pub kind : Kind
  pub kind_is : text_kind t ≡ Some kind
  pub byte : ℕ
  pub head_is : head ≡ run_head kind byte
  pub rest : List ℕ
  pub on : ReadsOn t ls bytes rest
  pub rows_are : ReadUpTo kind byte rest rows end
  pub in_time : 0 < length rows → ComeInTime t head (length rows)

-- after any lines that the text so far has read, these bytes begin with the lines of these rows, which come in time
abbrev pub ReadsBlock : TextSoFar → Head → List ℕ → List RowLine → Type 0
ReadsBlock t head bytes rows =
    (ls : List (List ℕ)) → TextAt t ls
    → (end : List ℕ) × LeftOf t ls bytes end head rows × (last_left (length bytes) rows ≡ length end)
