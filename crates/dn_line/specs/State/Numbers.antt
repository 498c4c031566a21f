-- Numbers and blanks at the beginning of longer bytes.
use Rattle.std.specs.Prelude.{◌≡◌, ℕ, ℤ, List, ◌∷◌, ◌++◌, map, true, false, None, Ok}
use Rattle.std.specs.List.{list_all}
use Rattle.dn_num.specs.Number.{number_read}
use Rattle.dn_line.specs.Words.{is_blank, said_words}
use Rattle.dn_line.specs.State.LineStates.{is_inner}
use Rattle.dn_line.specs.declared.word.Word.{Word}

-- the bytes are zero or more blanks, followed by the rest
pub record AreBlanks (bytes rest : List ℕ) : Type 0 where
  pub blanks : List ℕ
  pub whole : blanks ++ rest ≡ bytes
  pub all : list_all is_blank blanks ≡ true

-- the bytes are one or more blanks, followed by the rest
pub record AreSomeBlanks (bytes rest : List ℕ) : Type 0 where
  pub blank : ℕ
  pub is : is_blank blank ≡ true
  pub more : List ℕ
  pub whole : blank ∷ more ≡ bytes
  pub then : AreBlanks more rest

-- the bytes are zero or more blanks and LF, followed by the rest
pub record IsLineEnd (bytes rest : List ℕ) : Type 0 where
  pub blanks : AreBlanks bytes (10 ∷ rest)

-- the bytes are a word that spells this number, followed by the rest
pub record IsNumberFront (bytes : List ℕ) (number : ℤ) (rest : List ℕ) : Type 0 where
  pub word : List ℕ
  pub whole : word ++ rest ≡ bytes
  pub reads : number_read word ≡ Ok number

-- the bytes are a word that spells this number and one or more blanks, followed by the rest
pub record IsNumberBefore (bytes : List ℕ) (number : ℤ) (rest : List ℕ) : Type 0 where
  pub left : List ℕ
  pub front : IsNumberFront bytes number left
  pub gap : AreSomeBlanks left rest

-- the word that spells this number
abbrev pub number_word : ℤ → Word
number_word n = record { comment = false; keyword = None; number = Ok n }

-- the bytes are a line whose words spell these numbers, and LF, followed by the rest
pub record AreNumbers (bytes : List ℕ) (numbers : List ℤ) (rest : List ℕ) : Type 0 where
  pub line : List ℕ
  pub whole : line ++ 10 ∷ rest ≡ bytes
  pub inner : list_all is_inner line ≡ true
  pub says : said_words line ≡ map number_word numbers
