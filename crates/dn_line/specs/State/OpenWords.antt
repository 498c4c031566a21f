-- The state of a word that may continue.
use Rattle.std.specs.Prelude.{◌≡◌, ℕ, List, [], ◌∷◌, Bool, false, nat_eq, Option, None}
use Rattle.dn_num.specs.State.NumberReader.{NumberReaderAt}
use Rattle.dn_line.specs.Words.{keyword_of}
use Rattle.dn_line.specs.declared.word.Keyword.{Keyword}
use Rattle.dn_line.specs.declared.open_word.FirstBytes.{FirstBytes}
use Rattle.dn_line.specs.declared.open_word.FirstBytes.TheVariants.{Zero, One, Two, Three, More}
use Rattle.dn_line.specs.declared.open_word.OpenWord.{OpenWord}

-- the bytes of a word of at most three bytes, as each keyword is, or else the first byte
abbrev pub first_bytes : List ℕ → FirstBytes
first_bytes [] = Zero
first_bytes (a ∷ []) = One a
first_bytes (a ∷ b ∷ []) = Two a b
first_bytes (a ∷ b ∷ c ∷ []) = Three a b c
first_bytes (a ∷ b ∷ c ∷ d ∷ ds) = More a

-- the state represents these bytes of a word
pub record WordAt (o : OpenWord) (w : List ℕ) : Type 0 where
  pub first_is : o.first ≡ first_bytes w
  pub number_is : NumberReaderAt o.number w

-- the state after one more byte
abbrev pub first_bytes_step : FirstBytes → ℕ → FirstBytes
first_bytes_step Zero x = One x
first_bytes_step (One a) x = Two a x
first_bytes_step (Two a b) x = Three a b x
first_bytes_step (Three a b c) x = More a
first_bytes_step (More a) x = More a

-- the keyword that the word is
abbrev pub first_bytes_keyword : FirstBytes → Option Keyword
first_bytes_keyword Zero = None
first_bytes_keyword (One a) = keyword_of (a ∷ [])
first_bytes_keyword (Two a b) = keyword_of (a ∷ b ∷ [])
first_bytes_keyword (Three a b c) = keyword_of (a ∷ b ∷ c ∷ [])
first_bytes_keyword (More a) = None

-- the word begins with `c`
abbrev pub begins_with_c : FirstBytes → Bool
begins_with_c Zero = false
begins_with_c (One a) = nat_eq a 99
begins_with_c (Two a b) = nat_eq a 99
begins_with_c (Three a b c) = nat_eq a 99
begins_with_c (More a) = nat_eq a 99
