-- Arc lines that are read as rows.
use Rattle.std.proofs.Common.{◌≡◌, ℕ, suc, ◌+◌, ◌-◌, ◌^◌, ◌<◌, ◌≤◌, List, [], ◌∷◌, ◌++◌, length, length-append, length-take-le, take, get_or, map, false, true, Some, None, Ok, refl, sym, ap, ◌∙◌, append_assoc, arith}
use Rattle.dn_line.specs.declared.kind.Kind.{Kind}
use Rattle.dn_line.specs.declared.kind.Kind.TheVariants.{Min, Max, Sp, Ss, P2p, Co}
use Rattle.dn_line.specs.declared.line.Line.{Line}
use Rattle.dn_line.specs.declared.row.Row.{Row}
use Rattle.dn_line.specs.declared.row_block.RowLine.{RowLine}
use Rattle.dn_line.specs.declared.word.Field.{Field}
use Rattle.dn_line.specs.declared.word.Keyword.{Keyword}
use Rattle.dn_line.specs.declared.word.Keyword.TheVariants as Key
use Rattle.dn_line.specs.LineTable.{fields_of}
use Rattle.dn_line.specs.Reading.{item, words_read}
use Rattle.dn_line.specs.Words.{said_words}
use Rattle.dn_line.specs.State.Numbers.{number_word}
use Rattle.dn_line.specs.State.RowBlocks.{IsRowLine, ReadUpTo, last_left}
use Rattle.dn_line.specs.State.Rows.{EndsWithZeros, letter_byte, row_numbers}
use Rattle.dn_line.proofs.FaultLaws.{head_then_fields}
use Rattle.dn_line.proofs.RowLaws.{row_item}
use Rattle.dn_instance.specs.TextFaults.{is_too_long}
use Rattle.dn_instance.specs.State.TextsSoFar.{AreInner, closed_lines}
use Rattle.std.proofs.Math.Nat.{add-sub_cancel}
use Rattle.std.proofs.Math.Seq.{take-append_seam}
use Rattle.dn_arc_lines.specs.State.ArcLines.{arc_line_in, arc_lines_from, fault_from, read_by_itself}
use Rattle.dn_arc_lines.specs.State.Reading.{HasLines, TakesLines, arc_line_of_row, kind_after, numbered}
use Rattle.dn_arc_lines.specs.declared.arc_line.ArcLine.{ArcLine}
use Rattle.dn_arc_lines.specs.declared.arc_lines.ArcLines.{ArcLines}
use Rattle.dn_arc_lines.proofs.LinesLaws.{follow}
use Rattle.std.proofs.lemmas.Bool.Decides.{nat_tests}
use Rattle.std.proofs.lemmas.List.{take_more}

field_list : {a b : List Field} → Some a ≡ Some b → a ≡ b
field_list e = cc

byte_is : {a b : ℕ} → Some a ≡ Some b → a ≡ b
byte_is e = cc

-- the numbers of an arc line make the arc line of its row
by_arc : (kind : Kind) (key : Keyword) (r : Row) (fields : List Field) (n : ℕ) → letter_byte key ≡ Some 97
    → fields_of kind key ≡ Some fields → EndsWithZeros (length fields) r
    → arc_line_in n (item kind key (map number_word (row_numbers (length fields) r))) ≡ Some (arc_line_of_row n r)
by_arc Min Key.A r fields n b h z = rw (← field_list h)
by_arc Max Key.A r fields n b h z = let z = rw (← field_list h) at z in rw (← field_list h, z.0, z.1.0)
by_arc Sp Key.A r fields n b h z = let z = rw (← field_list h) at z in rw (← field_list h, z.0, z.1.0)
by_arc Ss Key.A r fields n b h z = cc
by_arc P2p Key.A r fields n b h z = cc
by_arc Co Key.A r fields n b h z = cc
by_arc kind Key.N r fields n b h z = absurd (let e : 110 ≡ 97 = byte_is b in omega arith)
by_arc kind Key.S r fields n b h z = absurd (let e : 115 ≡ 97 = byte_is b in omega arith)
by_arc kind Key.Q r fields n b h z = absurd (let e : 113 ≡ 97 = byte_is b in omega arith)
by_arc kind Key.V r fields n b h z = absurd (let e : 118 ≡ 97 = byte_is b in omega arith)
by_arc kind _ r fields n b h z = cc

-- the line of a row reads as the arc line of the row
record ReadsArc (kind : Kind) (l : List ℕ) (r : Row) : Type 0 where
  item : Line
  reads : words_read (Some kind) (said_words l) ≡ Ok item
  is : (n : ℕ) → arc_line_in n item ≡ Some (arc_line_of_row n r)

reads_arc : (kind : Kind) (bytes rest : List ℕ) (r : RowLine) → (l : IsRowLine kind 97 bytes r rest)
    → ReadsArc kind l.begins.line r.row
reads_arc kind bytes rest r l =
    let reads = row_item kind 97 l.fields bytes rest r.row l.in_table l.begins in
    record {
      item = item kind l.in_table.key (map number_word (row_numbers (length l.fields) r.row));
      reads = rw (head_then_fields, reads.head, reads.fields);
      is = λ n. by_arc kind l.in_table.key r.row l.fields n l.in_table.byte_is l.in_table.row_is l.begins.others;
    }

pub in_time : (n : ℕ) → n < 2 ^ 63 - 1 → is_too_long n ≡ false
in_time n h = grind (arith, nat_tests)

pub too_late : (n : ℕ) → 2 ^ 63 - 2 ≤ n → is_too_long (n + 1) ≡ true
too_late n h = grind (arith, nat_tests)

-- the arc lines of one more row
pub numbered_push : (n : ℕ) (rows : List RowLine) (r : RowLine)
    → numbered n (rows ++ r ∷ []) ≡ numbered n rows ++ arc_line_of_row (n + 1 + length rows) r.row ∷ []
numbered_push n [] r = let e : n + 1 + 0 ≡ n + 1 = omega arith in rw e
numbered_push n (x ∷ rows) r =
    let e : n + 1 + suc (length rows) ≡ n + 1 + 1 + length rows = omega arith in
    rw (e, numbered_push (n + 1) rows r)

pub one_more_row : (n i : ℕ) (rows : List RowLine) (d : RowLine) (arc : ArcLine) → i < length rows
    → arc ≡ arc_line_of_row (n + 1 + i) (get_or rows i d).row
    → numbered n (take i rows) ++ arc ∷ [] ≡ numbered n (take (i + 1) rows)
one_more_row n i rows d arc within is =
    let long : length (take i rows) ≡ i = length-take-le i rows (omega (arith, within)) in
    rw (take_more rows i d within, numbered_push n (take i rows) (get_or rows i d), long, is)

-- the bytes are lines, which read as the arc lines of these rows after n lines, and the rest
pub record Run (kind : Kind) (n : ℕ) (bytes rest : List ℕ) (rows : List RowLine) : Type 0 where
  pub more : List (List ℕ)
  pub whole : closed_lines more ++ rest ≡ bytes
  pub inner : AreInner more
  pub count : length more ≡ length rows
  pub kind_is : kind_after (Some kind) n more ≡ Some kind
  pub arcs : arc_lines_from (Some kind) n more ≡ numbered n rows
  pub fine : fault_from (Some kind) n more ≡ None

pub run : (kind : Kind) (n : ℕ) (bytes rest : List ℕ) (rows : List RowLine) → ReadUpTo kind 97 bytes rows rest
    → n + length rows < 2 ^ 63 - 1 → Run kind n bytes rest rows
run kind n bytes rest [] u few =
    record { more = []; whole = sym u; inner = tt; count = refl; kind_is = refl; arcs = refl; fine = refl }
run kind n bytes rest (r ∷ rows) u few =
    let b = u.1.begins in
    let a = reads_arc kind bytes u.0 r u.1 in
    let read : read_by_itself (Some kind) (n + 1) b.line ≡ Ok a.item = rw (in_time (n + 1) (omega arith)) a.reads in
    let on = run kind (n + 1) u.0 rest rows u.2 (omega arith) in
    record {
      more = b.line ∷ on.more;
      whole = rw (append_assoc (b.line ++ 10 ∷ []) (closed_lines on.more) rest, append_assoc b.line, on.whole) b.whole;
      inner = (b.inner, on.inner);
      count = omega (arith, on.count);
      kind_is = rw read on.kind_is;
      arcs = rw (read, a.is (n + 1), on.arcs);
      fine = rw read on.fine;
    }

-- as many bytes are left after the lines as the last row says
pub left_is : (kind : Kind) (letter : ℕ) (bytes rest : List ℕ) (rows : List RowLine)
    → ReadUpTo kind letter bytes rows rest → last_left (length bytes) rows ≡ length rest
left_is kind letter bytes rest [] u = ap length u
left_is kind letter bytes rest (r ∷ rows) u = rw u.1.left (left_is kind letter u.0 rest rows u.2)

-- the rest is shorter than the bytes, if there is a row
pub not_more : (kind : Kind) (letter : ℕ) (bytes rest : List ℕ) (rows : List RowLine)
    → ReadUpTo kind letter bytes rows rest → length rest + length rows ≤ length bytes
not_more kind letter bytes rest [] u = omega (arith, ap length u)
not_more kind letter bytes rest (r ∷ rows) u =
    let b = u.1.begins in
    omega (arith, not_more kind letter u.0 rest rows u.2, ap length b.whole, length-append b.line (10 ∷ u.0))

-- the bytes before the rest
before_front : (a b c : List ℕ) → a ++ b ≡ c → take (length c - length b) c ≡ a
before_front a b c e = rw (← e, length-append a b, add-sub_cancel (length a) (length b)) (take-append_seam a b)

-- the reader has taken the lines of these rows
pub takes : (old new : ArcLines) (kind : Kind) (ls : List (List ℕ)) (bytes rest : List ℕ) (rows : List RowLine)
    (used : ℕ) (front out : List ArcLine) → HasLines old ls → old.fault ≡ None → old.known ≡ Some kind
    → ReadUpTo kind 97 bytes rows rest → old.number + length rows < 2 ^ 63 - 1
    → used ≡ length bytes - last_left (length bytes) rows
    → new ≡ record old { number = old.number + length rows } → out ≡ front ++ numbered old.number rows
    → TakesLines new ls (take used bytes) front out
takes old new kind ls bytes rest rows used front out h none known u few used_is new_is out_is =
    let on = run kind old.number bytes rest rows u few in
    let f = follow old ls on.more h none in
    let long : used ≡ length bytes - length rest = used_is ∙ rw (left_is kind 97 bytes rest rows u) in
    record {
      more = on.more;
      whole = sym (rw long (before_front (closed_lines on.more) rest bytes on.whole));
      inner = on.inner;
      adds = record {
        read = rw new_is (record {
          known_is = known ∙ sym (f.kind ∙ rw (known, on.kind_is));
          number_is = rw none (f.number ∙ omega (arith, on.count));
          few = few;
          fault_is = rw none (sym (f.fault ∙ rw (known, on.fine)));
        });
        rows = numbered old.number rows;
        out_is = out_is;
        rows_are = f.arcs ∙ rw (known, on.arcs);
      };
    }
