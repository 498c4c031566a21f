-- Lemmas on the lines of the rows of a block.
use Rattle.std.proofs.Common.{◌≡◌, ◌<◌, ◌+◌, ℕ, suc, List, [], ◌∷◌, ◌++◌, length, map, drop, get_or, false, Some, None, Ok, Err, refl, sym, ap, ◌∙◌, subst, arith, append_assoc, inl, inr}
use Rattle.std.proofs.lemmas.Bool.{cases_Bool, cases_eq, ne_eqb}
use Rattle.std.proofs.lemmas.List.{drop_more}
use Rattle.dn_line.specs.LineTable.{fields_of}
use Rattle.dn_line.specs.Reading.{item}
use Rattle.dn_line.specs.State.Numbers.{number_word}
use Rattle.dn_line.specs.State.LineReads.{head_of, head_read}
use Rattle.dn_line.specs.State.RowBlocks.{IsRowLine, ReadUpTo, last_left}
use Rattle.dn_line.specs.State.RowItems.{item_of_row}
use Rattle.dn_line.specs.State.Rows.{FieldsFit, letter_byte, row_numbers}
use Rattle.dn_line.specs.Words.{is_skip, said_words}
use Rattle.dn_line.specs.declared.kind.Kind.{Kind}
use Rattle.dn_line.specs.declared.kind.Kind.TheVariants.{Min, Max, Sp, Ss, P2p, Co}
use Rattle.dn_line.specs.declared.line.Head.{Head}
use Rattle.dn_line.specs.declared.line.Head.TheVariants as Heads
use Rattle.dn_line.specs.declared.line.Line.{Line}
use Rattle.dn_line.specs.declared.row.Row.{Row}
use Rattle.dn_line.specs.declared.row_block.RowLine.{RowLine}
use Rattle.dn_line.specs.declared.word.Field.{Field}
use Rattle.dn_line.specs.declared.word.Keyword.{Keyword}
use Rattle.dn_line.specs.declared.word.Keyword.TheVariants as Key
use Rattle.dn_line.specs.declared.word.Word.{Word}
use Rattle.dn_line.proofs.RowLaws.{ReadsAs, row_item}
use Rattle.dn_instance.specs.Items.{kind_known}
use Rattle.dn_instance.specs.State.RowHeads.{IsRowHead, counted_head, counted_line, run_head}
use Rattle.dn_instance.specs.State.ItemFaults.{AnswersFault}
use Rattle.dn_instance.specs.State.LineRefusals.{refused_at}
use Rattle.dn_instance.specs.State.ReaderStates.{TakesBlock}
use Rattle.dn_instance.specs.State.TextsSoFar.{AfterRow, ComeInTime, IsLineOf, LeftOf, NeedsAfter, TextAt, fault_after, text_kind}
use Rattle.dn_instance.specs.Texts.{items_of}
use Rattle.dn_instance.specs.declared.reader.Reader.{Reader}
use Rattle.dn_instance.specs.declared.refusal.ItemFault.{ItemFault}
use Rattle.dn_instance.specs.declared.refusal.ItemFault.TheVariants as Faults
use Rattle.dn_instance.specs.declared.refusal.Refusal.{Refusal}
use Rattle.dn_instance.specs.declared.text_so_far.TextSoFar.{TextSoFar}
use Rattle.dn_instance.proofs.CleanItems.{items_push}
use Rattle.dn_instance.proofs.FollowLaws.{head_agrees, head_skips, next_item, then_fields}
use Rattle.dn_instance.proofs.ItemSteps.{kind_agrees}
use Rattle.dn_instance.proofs.PieceSteps.{closed_push, inner_push}
use Rattle.dn_instance.proofs.ReaderLaws.{refuses_next}
use Rattle.dn_instance.proofs.RowTakes.{come_after, row_in_time}

-- the letter is that of lines with this head, and the numbers of a row make the item
abbrev SpellsItem : Kind → Head → Keyword → Line → Row → List Field → Type 0
SpellsItem kind head key i r fields =
    (head_of (Some key) None ≡ head) × (item kind key (map number_word (row_numbers (length fields) r)) ≡ i)

field_list : {a b : List Field} → Some a ≡ Some b → a ≡ b
field_list e = cc

-- a line of numbers of the table is counted, unless it is a `min` node line
by_table : (kind : Kind) (key : Keyword) (r : Row) (fields : List Field) → fields_of kind key ≡ Some fields
    → FieldsFit fields (row_numbers (length fields) r) → (kind ≡ Min → key ≡ Key.N → ⊥)
    → SpellsItem kind (counted_head kind) key (counted_line kind r) r fields
by_table Min Key.N r fields h fit n = absurd (n refl refl)
by_table Max Key.N r fields h fit n = let f = rw (← field_list h) at fit in cc f.1.0
by_table Min Key.A r fields h fit n = rw (← field_list h) (refl, refl)
by_table Max Key.A r fields h fit n = rw (← field_list h) (refl, refl)
by_table Sp Key.A r fields h fit n = rw (← field_list h) (refl, refl)
by_table Ss Key.S r fields h fit n = rw (← field_list h) (refl, refl)
by_table P2p Key.Q r fields h fit n = rw (← field_list h) (refl, refl)
by_table Co Key.V r fields h fit n = rw (← field_list h) (refl, refl)
by_table _ _ r fields h fit n = cc

-- the line of a row has this head, and reads as this item
pub record ReadsRow (kind : Kind) (head : Head) (ws : List Word) (i : Line) : Type 0 where
  key : Keyword
  is : head_of (Some key) None ≡ head
  reads : ReadsAs kind key ws i

-- in a text of this kind, lines of rows that begin with this byte have this head, and read as its items
abbrev pub SpellsRows : Kind → ℕ → Head → Type 0
SpellsRows kind byte head =
    (bytes rest : List ℕ) (r : RowLine) → (l : IsRowLine kind byte bytes r rest)
    → ReadsRow kind head (said_words l.begins.line) (item_of_row head (Some kind) r.row)

made : (kind : Kind) (byte : ℕ) (head : Head) (bytes rest : List ℕ) (r : RowLine) (i : Line)
    → (l : IsRowLine kind byte bytes r rest) → SpellsItem kind head l.in_table.key i r.row l.fields
    → ReadsRow kind head (said_words l.begins.line) i
made kind byte head bytes rest r i l m = record {
  key = l.in_table.key;
  is = m.0;
  reads = rw m.1 at (row_item kind byte l.fields bytes rest r.row l.in_table l.begins);
}

counted_rows : (kind : Kind) (byte : ℕ) → (kind ≡ Min → byte ≡ 110 → ⊥) → SpellsRows kind byte (counted_head kind)
counted_rows kind byte other bytes rest r l =
    made kind byte (counted_head kind) bytes rest r (counted_line kind r.row) l
    (by_table kind l.in_table.key r.row l.fields l.in_table.row_is l.begins.fit
    (λ min n. other min (cc (rw n at l.in_table.byte_is))))

supply_rows : (byte : ℕ) → byte ≡ 110 → SpellsRows Min byte Heads.Node
supply_rows byte e bytes rest r l =
    made Min byte Heads.Node bytes rest r (item_of_row Heads.Node (Some Min) r.row) l
    (of_n l.in_table.key (only_n l.in_table.key (l.in_table.byte_is ∙ ap Some e)) l.fields l.in_table.row_is r.row)
  where
    byte_is : {a b : ℕ} → Some a ≡ Some b → a ≡ b
    byte_is e = cc

    only_n : (key : Keyword) → letter_byte key ≡ Some 110 → key ≡ Key.N
    only_n Key.N h = refl
    only_n Key.A h = absurd (let e : 97 ≡ 110 = byte_is h in omega arith)
    only_n Key.S h = absurd (let e : 115 ≡ 110 = byte_is h in omega arith)
    only_n Key.Q h = absurd (let e : 113 ≡ 110 = byte_is h in omega arith)
    only_n Key.V h = absurd (let e : 118 ≡ 110 = byte_is h in omega arith)
    only_n _ h = cc

    of_n : (key : Keyword) → key ≡ Key.N → (fields : List Field) → fields_of Min key ≡ Some fields → (r : Row)
        → SpellsItem Min Heads.Node key (item_of_row Heads.Node (Some Min) r) r fields
    of_n key n fields h r = rw (n, ← field_list (rw n at h)) (refl, refl)

-- the lines of rows that begin with a byte have its head
pub rows_spell : (kind : Kind) (byte : ℕ) → SpellsRows kind byte (run_head kind byte)
rows_spell Min byte = elim (cases_eq byte 110) [
  | inl e ↦ rw e (supply_rows 110 refl)
  | inr n ↦ rw (ne_eqb byte 110 n) (counted_rows Min byte (λ k e. n e))
]
rows_spell Max byte = counted_rows Max byte (λ k e. cc)
rows_spell kind byte = counted_rows kind byte (λ k e. cc)

-- lines of rows have this head
pub run_head_is : (kind : Kind) (byte : ℕ) → IsRowHead kind (run_head kind byte)
run_head_is Min byte = elim (cases_eq byte 110) [
  | inl e ↦ rw e (inl (refl, refl))
  | inr n ↦ rw (ne_eqb byte 110 n) (inr refl)
]
run_head_is Max byte = inr refl
run_head_is kind byte = inr refl

-- the number of the bytes after the lines of some rows
pub left_is : (kind : Kind) (byte : ℕ) (bytes end : List ℕ) (rows : List RowLine) → ReadUpTo kind byte bytes rows end
    → last_left (length bytes) rows ≡ length end
left_is kind byte bytes end [] u = ap length u
left_is kind byte bytes end (r ∷ rows) u = rw u.1.left (left_is kind byte u.0 end rows u.2)

-- lines of rows are not skipped
not_skip : (kind : Kind) (head : Head) → IsRowHead kind head → head ≡ Heads.Skip → ⊥
not_skip kind head is skip = elim is [ inl e ↦ cc | inr e ↦ none kind (sym skip ∙ e) ]
  where
    none : (kind : Kind) → Heads.Skip ≡ counted_head kind → ⊥
    none Min e = cc
    none _ e = cc

-- the line of a row that comes in time reads as its item
line_of_row : (t : TextSoFar) (kind : Kind) (head : Head) (row : Row) (m : ℕ) (ls : List (List ℕ)) (l : List ℕ)
    → TextAt t ls → text_kind t ≡ Some kind → IsRowHead kind head → ComeInTime t head (suc m)
    → ReadsRow kind head (said_words l) (item_of_row head (Some kind) row) → IsLineOf t head row ls l
line_of_row t kind head row m ls l at is row_is times r =
    let ws = said_words l in
    let named : head_read (Some kind) ws ≡ Ok head = r.reads.head ∙ ap Ok r.is in
    let counts : is_skip ws ≡ false = elim (cases_Bool (is_skip ws)) [
      | inl e ↦ absurd (not_skip kind head row_is (head_skips (Some kind) ws head e named))
      | inr e ↦ e
    ] in
    let known : kind_known (items_of ls) ≡ Some kind = kind_agrees t (items_of ls) at.items_are ∙ is in
    let own = ap (λ k. head_read k ws) known ∙ named in
    let listed = head_agrees (kind_known (items_of ls)) ws head counts own in
    record {
      counts = counts;
      reads =
          sym (then_fields (items_of ls) ws head own
          (rw counts (row_in_time t (items_of ls) kind head m at.items_are is row_is times ws listed.1)))
          ∙ rw (known, is) r.reads.fields;
    }

-- the next line after the lines that have been read
module _ (t : TextSoFar) (ls : List (List ℕ)) (bytes end : List ℕ) (head : Head) (r : RowLine) (rows : List RowLine)
    (left : LeftOf t ls bytes end head (r ∷ rows)) where
  abbrev next_line : List ℕ
  next_line = left.rows_are.1.begins.line

  abbrev lines_read : List (List ℕ)
  lines_read = ls ++ left.on.more

  row_is : IsRowHead left.kind head
  row_is = rw left.head_is (run_head_is left.kind left.byte)

  times : ComeInTime t head (suc (length rows))
  times = left.in_time (omega arith)

  line_is : IsLineOf t head r.row lines_read next_line
  line_is =
      line_of_row t left.kind head r.row (length rows) lines_read next_line left.on.read left.kind_is row_is times
      (subst (λ h. ReadsRow left.kind h (said_words next_line) (item_of_row h (Some left.kind) r.row))
      (sym left.head_is) (rows_spell left.kind left.byte left.rest left.rows_are.0 r left.rows_are.1))

  -- once it has been read, the lines of the other rows are left
  next_left : (u : TextSoFar) → TextAt u (lines_read ++ next_line ∷ []) → LeftOf u ls bytes end head rows
  next_left u at =
      let b = left.rows_are.1.begins in
      let items = items_of lines_read in
      let i = item_of_row head (Some left.kind) r.row in
      let adds : items_of (lines_read ++ next_line ∷ []) ≡ items ++ i ∷ [] =
      items_push lines_read next_line
      ∙ (next_item items (said_words next_line) i line_is.counts (line_is.reads
      ∙ ap (λ k. Ok (item_of_row head k r.row)) left.kind_is)).adds in
      let after =
      come_after t items left.kind head (length rows) left.on.read.items_are left.kind_is row_is times u r.row
      (rw adds at at.items_are) in
      record {
        kind = left.kind;
        kind_is = after.0;
        byte = left.byte;
        head_is = left.head_is;
        rest = left.rows_are.0;
        on = record {
          more = left.on.more ++ next_line ∷ [];
          whole = rw (closed_push left.on.more next_line, append_assoc, append_assoc, b.whole) left.on.whole;
          inner = inner_push left.on.more next_line left.on.inner b.inner;
          read = rw append_assoc at at;
        };
        rows_are = left.rows_are.2;
        in_time = λ some. after.1;
      }

-- the rows of a block from a position on
module _ (t : TextSoFar) (ls : List (List ℕ)) (bytes end : List ℕ) (head : Head) (rows : List RowLine) (i : ℕ)
    (d : RowLine) (here : i < length rows) (left : LeftOf t ls bytes end head (drop i rows)) where
  now : LeftOf t ls bytes end head (get_or rows i d ∷ drop (i + 1) rows)
  now = subst (LeftOf t ls bytes end head) (drop_more rows i d here) left

  is : IsLineOf t head (get_or rows i d).row (ls ++ now.on.more) now.rows_are.1.begins.line
  is = line_is t ls bytes end head (get_or rows i d) (drop (i + 1) rows) now

  -- the line of the row at the position has been read
  pub read_next : (u : TextSoFar) → AfterRow t head (get_or rows i d).row (λ ms l. TextAt u (ms ++ l ∷ []))
      → LeftOf u ls bytes end head (drop (i + 1) rows)
  read_next u stands =
      next_left t ls bytes end head (get_or rows i d) (drop (i + 1) rows) now u (stands _ _ now.on.read is)

  -- the line of the row at the position is refused
  pub refuse_next : (r : Reader) (fault : ItemFault) (e : Refusal)
      → AfterRow t head (get_or rows i d).row (λ ms l. AnswersFault (Err fault) (fault_after ms l))
      → AfterRow t head (get_or rows i d).row (λ ms l. fault ≡ Faults.Memory → NeedsAfter ms l)
      → ((ms : List (List ℕ)) → TextAt t ms → TextAt r.text ms) → r.refusal ≡ Some e
      → ((ms : List (List ℕ)) → TextAt t ms → e ≡ refused_at (length ms + 1) fault)
      → TakesBlock r ls bytes end (Err e)
  refuse_next r fault e answer item same refusal said =
      let more = now.on.more in
      let read = now.on.read in (
        now.rows_are.1.begins.line,
        now.rows_are.0,
        record {
          more = more;
          whole = rw now.rows_are.1.begins.whole now.on.whole;
          inner = now.on.inner;
          read = same _ read;
        },
        now.rows_are.1.begins.inner,
        refuses_next r (ls ++ more) now.rows_are.1.begins.line fault e (same _ read) refusal (said _ read)
            (answer _ _ read is) (item _ _ read is),
      )
