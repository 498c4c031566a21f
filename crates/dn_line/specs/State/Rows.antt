-- Lines of a letter and numbers in plain spelling at the beginning of longer bytes.
use Rattle.std.specs.Prelude.{◌≡◌, ◌≤ℤ◌, ℕ, ℤ, pos, List, [], ◌∷◌, ◌++◌, length, slice_get, map, take, drop, Bool, true, false, not, int_lt, Option, Some, None}
use Rattle.std.specs.List.{AllByRecursion, list_all}
use Rattle.dn_line.specs.LineTable.{fields_of}
use Rattle.dn_line.specs.Words.{said, said_words}
use Rattle.dn_line.specs.State.Numbers.{AreNumbers, number_word}
use Rattle.dn_line.specs.State.LineStates.{is_inner}
use Rattle.dn_line.specs.declared.kind.Kind.{Kind}
use Rattle.dn_line.specs.declared.row.Row.{Row}
use Rattle.dn_line.specs.declared.word.Field.{Field}
use Rattle.dn_line.specs.declared.word.Field.TheVariants.{Number, Natural, Terminal}
use Rattle.dn_line.specs.declared.word.Keyword.{Keyword}
use Rattle.dn_line.specs.declared.word.Keyword.TheVariants.{N, A, S, Q, V}

-- the letters of the lines after the problem line, as bytes
abbrev pub letter_byte : Keyword → Option ℕ
letter_byte N = Some 110
letter_byte A = Some 97
letter_byte S = Some 115
letter_byte Q = Some 113
letter_byte V = Some 118
letter_byte _ = None

-- lines that begin with this letter have these fields in a text of this kind
pub record HasFields (kind : Kind) (letter : ℕ) (fields : List Field) : Type 0 where
  pub key : Keyword
  pub byte_is : letter_byte key ≡ Some letter
  pub row_is : fields_of kind key ≡ Some fields

-- the first numbers of a row, this many
abbrev pub row_numbers : ℕ → Row → List ℤ
row_numbers count r = take count (r.first ∷ r.second ∷ r.third ∷ r.fourth ∷ r.fifth ∷ [])

-- the numbers of a row after the first ones, this many, are 0
abbrev pub EndsWithZeros : ℕ → Row → Type 0
EndsWithZeros count r =
    AllByRecursion (λ n. n ≡ pos 0) (drop count (r.first ∷ r.second ∷ r.third ∷ r.fourth ∷ r.fifth ∷ []))

-- the bytes are a line of this many numbers and LF, followed by the rest, and the row has these numbers and no others
pub record HasNumbers (count : ℕ) (bytes : List ℕ) (r : Row) (rest : List ℕ) : Type 0 where
  pub numbers : AreNumbers bytes (row_numbers count r) rest
  pub others : EndsWithZeros count r

-- the number fits this field, or there is no field
abbrev pub field_fits : Option Field → ℤ → Bool
field_fits None n = true
field_fits (Some Number) n = true
field_fits (Some Natural) n = not (int_lt n (pos 0))
field_fits (Some Terminal) n = false

-- the first numbers of a row, this many, are at least 0
abbrev pub AreNatural : ℕ → Row → Type 0
AreNatural count r = AllByRecursion (λ n. pos 0 ≤ℤ n) (row_numbers count r)

-- each field is of a number
abbrev pub AreNumeric : List Field → Type 0
AreNumeric fs = (i : ℕ) → slice_get fs i ≡ Some Terminal → ⊥

-- there are as many numbers as fields, and each number fits its field
abbrev pub FieldsFit : List Field → List ℤ → Type 0
FieldsFit [] [] = Unit {0}
FieldsFit [] (n ∷ ns) = ⊥
FieldsFit (f ∷ fs) [] = ⊥
FieldsFit (f ∷ fs) (n ∷ ns) = (field_fits (Some f) n ≡ true) × FieldsFit fs ns

-- the bytes are a line of this letter and of the row's numbers, which fit the fields, and LF, followed by the rest
pub record BeginsWithRow (letter : ℕ) (fields : List Field) (bytes : List ℕ) (r : Row) (rest : List ℕ) : Type 0 where
  pub line : List ℕ
  pub whole : line ++ 10 ∷ rest ≡ bytes
  pub inner : list_all is_inner line ≡ true
  pub says : said_words line ≡ said (letter ∷ []) ∷ map number_word (row_numbers (length fields) r)
  pub fit : FieldsFit fields (row_numbers (length fields) r)
  pub others : EndsWithZeros (length fields) r
