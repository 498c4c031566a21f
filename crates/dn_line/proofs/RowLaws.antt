-- Lines of a letter and numbers.
use Rattle.std.proofs.Common.{Option, ◌≡◌, ◌≤◌, ◌-◌, ◌<◌, ℕ, ℤ, suc, pos, ◌≤ℤ◌, int_lt, List, [], ◌∷◌, ◌++◌, length, take, drop, get_or, map, true, slice_get, is_none, None, Some, Result, Ok, refl, ap, ◌∙◌, arith, append_assoc}
use Rattle.std.proofs.lemmas.Bool.{and_from, not-true}
use Rattle.std.proofs.lemmas.List.{take_all}
use Rattle.std.specs.List.{list_all}
use Rattle.dn_line.specs.Faults.{first_fault, field_tests}
use Rattle.dn_line.specs.State.Fields.{filled_fields}
use Rattle.dn_line.specs.LineTable.{fields_of}
use Rattle.dn_line.specs.Reading.{item, unless}
use Rattle.dn_line.specs.Words.{first, said, said_words}
use Rattle.dn_line.specs.State.LineStates.{is_clear, is_inner}
use Rattle.dn_line.specs.State.Numbers.{AreSomeBlanks, number_word}
use Rattle.dn_line.specs.State.LineReads.{fields_read, head_of, head_read}
use Rattle.dn_line.specs.State.Rows.{AreNatural, AreNumeric, BeginsWithRow, FieldsFit, HasNumbers, HasFields, field_fits, letter_byte, row_numbers}
use Rattle.dn_line.specs.declared.kind.Kind.{Kind}
use Rattle.dn_line.specs.declared.code.Code.{Code}
use Rattle.dn_line.specs.declared.code.Code.TheVariants.{WrongLine}
use Rattle.dn_line.specs.declared.line.Line.{Line}
use Rattle.dn_line.specs.declared.row.Row.{Row}
use Rattle.dn_line.specs.declared.word.Field.{Field}
use Rattle.dn_line.specs.declared.word.Field.TheVariants.{Number, Natural, Terminal}
use Rattle.dn_line.specs.declared.word.Keyword.{Keyword}
use Rattle.dn_line.specs.declared.word.Keyword.TheVariants as Key
use Rattle.dn_line.specs.declared.word.Word.{Word}
use Rattle.dn_line.proofs.FieldLaws.{AllStand, Stands, not_below, below_none, stand_none}
use Rattle.dn_line.proofs.FieldLaws as Fields
use Rattle.dn_line.proofs.NumbersLaws.{blank_inner, blanks_inner, blanks_words, run_words}
use Rattle.dn_line.proofs.ClearLaws.{clear_inner, inner_append}

-- each number fits the field at its place, counted from `k`, or there is no such field
abbrev pub FitFrom : List Field → ℕ → List ℤ → Type 0
FitFrom fs k [] = Unit {0}
FitFrom fs k (n ∷ ns) = (field_fits (slice_get fs k) n ≡ true) × FitFrom fs (suc k) ns

fit_later : (f : Field) (fs : List Field) (k : ℕ) (ns : List ℤ) → FitFrom (f ∷ fs) (suc k) ns → FitFrom fs k ns
fit_later f fs k [] h = tt
fit_later f fs k (n ∷ ns) h = (h.0, fit_later f fs (suc k) ns h.1)

-- as many numbers as fields fit the fields
pub fit_first : (fs : List Field) (ns : List ℤ) → length fs ≤ length ns → FitFrom fs 0 ns
    → FieldsFit fs (take (length fs) ns)
fit_first [] ns l h = tt
fit_first (f ∷ fs) [] l h = absurd (omega arith)
fit_first (f ∷ fs) (n ∷ ns) l h = (h.0, fit_first fs ns (omega arith) (fit_later f fs 0 ns h.1))

-- three numbers that are at least 0 fit three fields of numbers
pub natural_fit : (fs : List Field) (r : Row) → length fs ≡ 3 → AreNumeric fs → AreNatural 3 r
    → FieldsFit fs (row_numbers 3 r)
natural_fit (f ∷ g ∷ k ∷ []) r l num h =
    (by_field f r.first (num 0) h.0, (by_field g r.second (num 1) h.1.0, (by_field k r.third (num 2) h.1.1.0, tt)))
  where
    by_field : (f : Field) (n : ℤ) → (Some f ≡ Some Terminal → ⊥) → pos 0 ≤ℤ n → field_fits (Some f) n ≡ true
    by_field Number n is h = refl
    by_field Natural n is h = rw (below_none n h)
    by_field Terminal n is h = absurd (is refl)
natural_fit _ r l num h = absurd (omega arith)

-- a letter, blanks and numbers that fit the fields are the line of the row
row_line : (letter : ℕ) (fields : List Field) (bytes more rest : List ℕ) (r : Row) → is_clear letter ≡ true
    → AreSomeBlanks bytes more
    → HasNumbers (length fields) more r rest → FieldsFit fields (row_numbers (length fields) r)
    → BeginsWithRow letter fields (letter ∷ bytes) r rest
row_line letter fields bytes more rest r clear g has fit =
    let bs = g.then.blanks in
    let a = has.numbers in
    let run : list_all is_clear (letter ∷ []) ≡ true = rw clear in
    record {
      line = letter ∷ g.blank ∷ bs ++ a.line;
      whole = rw (append_assoc, a.whole, g.then.whole, g.whole);
      inner =
          inner_append (letter ∷ []) (g.blank ∷ bs ++ a.line) (clear_inner (letter ∷ []) run)
          (and_from (is_inner g.blank) (list_all is_inner (bs ++ a.line)) (blank_inner g.blank g.is)
          (inner_append bs a.line (blanks_inner bs g.then.all) a.inner));
      says = rw (
        run_words (letter ∷ []) g.blank (bs ++ a.line) run refl g.is,
        blanks_words bs a.line g.then.all,
        a.says,
      );
      fit = fit;
      others = has.others;
    }

-- the same for bytes whose first is the letter
pub row_front : (letter : ℕ) (fields : List Field) (bytes more rest : List ℕ) (r : Row) → is_clear letter ≡ true
    → 0 < length bytes → get_or bytes 0 0 ≡ letter → AreSomeBlanks (take (length bytes - 1) (drop 1 bytes)) more
    → HasNumbers (length fields) more r rest → FieldsFit fields (row_numbers (length fields) r)
    → BeginsWithRow letter fields bytes r rest
row_front letter fields [] more rest r clear some is g a fit = absurd (omega arith)
row_front letter fields (b ∷ bytes) more rest r clear some is g a fit =
    rw is
    (row_line letter fields bytes more rest r clear
    (rw (take_all (length (b ∷ bytes) - 1) bytes (omega arith)) at g) a fit)

stand_all : (fs : List Field) (ns : List ℤ) → FieldsFit fs ns → AllStand fs (map number_word ns)
stand_all [] [] h = Fields.none
stand_all (f ∷ fs) (n ∷ ns) h = Fields.more (by_field f h.0) (stand_all fs ns h.1)
  where
    by_field : (f : Field) → field_fits (Some f) n ≡ true → Stands f (number_word n)
    by_field Number e = refl
    by_field Natural e = (refl, not_below n (not-true (int_lt n (pos 0)) e))
    by_field Terminal e = cc
stand_all _ _ h = absurd h

-- what the fields of a line read as, given the words after its letter
abbrev checked : Kind → Keyword → List Word → Result Line Code
checked k l ws = unless (first_fault (field_tests (filled_fields (fields_of k l) ws))) (item k l ws)

-- numbers that fit the fields of a line read as the item of the line
row_reads : (kind : Kind) (key : Keyword) (fs : List Field) (ns : List ℤ) → fields_of kind key ≡ Some fs
    → FieldsFit fs ns
    → checked kind key (map number_word ns) ≡ Ok (item kind key (map number_word ns))
row_reads kind key fs ns e h = rw (e, stand_none fs (map number_word ns) (stand_all fs ns h))

-- what the head and the fields of a line that begins with this byte read as, given the words after the letter
abbrev ReadAs : Kind → Keyword → List Word → ℕ → Type 0
ReadAs kind key ws b =
    (head_read (Some kind) (said (b ∷ []) ∷ ws)
    ≡ unless (first_fault ((WrongLine, is_none (fields_of kind key)) ∷ [])) (head_of (Some key) None))
    × (fields_read (Some kind) (said (b ∷ []) ∷ ws) ≡ checked kind key ws)
    × (first (said (b ∷ []) ∷ ws) ≡ Some key)

abbrev ReadAny : Kind → Keyword → List Word → Option ℕ → Type 0
ReadAny kind key ws None = Unit {0}
ReadAny kind key ws (Some b) = ReadAs kind key ws b

by_letter : (kind : Kind) (key : Keyword) (ws : List Word) → ReadAny kind key ws (letter_byte key)
by_letter kind Key.N ws = (refl, refl, refl)
by_letter kind Key.A ws = (refl, refl, refl)
by_letter kind Key.S ws = (refl, refl, refl)
by_letter kind Key.Q ws = (refl, refl, refl)
by_letter kind Key.V ws = (refl, refl, refl)
by_letter kind _ ws = tt

-- the line of these words begins with a letter, and after a problem line of this kind it reads as this item
pub record ReadsAs (kind : Kind) (key : Keyword) (ws : List Word) (i : Line) : Type 0 where
  pub head : head_read (Some kind) ws ≡ Ok (head_of (Some key) None)
  pub fields : fields_read (Some kind) ws ≡ Ok i
  pub letter : first ws ≡ Some key

-- the line of a row reads as the item of its numbers
pub row_item : (kind : Kind) (letter : ℕ) (fields : List Field) (bytes rest : List ℕ) (r : Row)
    → (has : HasFields kind letter fields) → (b : BeginsWithRow letter fields bytes r rest)
    → ReadsAs kind has.key (said_words b.line) (item kind has.key (map number_word (row_numbers (length fields) r)))
row_item kind letter fields bytes rest r has b =
    let ws = map number_word (row_numbers (length fields) r) in
    let reads = rw has.byte_is at (by_letter kind has.key ws) in
    record {
      head = ap (head_read (Some kind)) b.says ∙ reads.0 ∙ rw has.row_is;
      fields =
          ap (fields_read (Some kind)) b.says ∙ reads.1
          ∙ row_reads kind has.key fields (row_numbers (length fields) r) has.row_is b.fit;
      letter = ap first b.says ∙ reads.2;
    }
