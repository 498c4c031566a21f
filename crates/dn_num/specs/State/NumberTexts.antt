-- Number texts as relations. Both Challenges write whole numbers in decimal (First DIMACS Challenge, network flow
-- format; Ninth DIMACS Challenge, shortest-path formats). The optional sign, leading zeros and the range are this
-- project's profile.
use Rattle.std.specs.Prelude.{◌≡◌, ◌≢◌, ℕ, List, [], ◌∷◌, ◌++◌, length, Bool, false, nat_eq, codes, ℤ, pos, ◌<ℤ◌, IsTrue}
use Rattle.std.proofs.Common.{neg_ℤ}
use Rattle.dn_num.specs.Number.{digits_number, is_digits}

-- what may precede the digits of a number text
pub data Sign : Type 0 where
  Unsigned : Sign
  Plus : Sign
  Minus : Sign

-- the bytes that spell a sign
abbrev pub sign_text : Sign → List ℕ
sign_text Unsigned = []
sign_text Plus = codes "+"
sign_text Minus = codes "-"

-- the number with this sign and magnitude
abbrev pub signed : Sign → ℕ → ℤ
signed Unsigned n = pos n
signed Plus n = pos n
signed Minus n = neg_ℤ (pos n)

-- b is a number text of n: an optional sign, followed by one or more digits (this project's profile)
pub record NumberText (b : List ℕ) (n : ℤ) : Type 0 where
  pub sign : Sign
  pub digits : List ℕ
  pub text_is : b ≡ sign_text sign ++ digits
  pub some_digits : IsTrue (is_digits digits)
  pub value_is : n ≡ signed sign (digits_number digits)

-- the first digit is `0`
abbrev pub begins_with_zero : List ℕ → Bool
begins_with_zero [] = false
begins_with_zero (d ∷ ds) = nat_eq d 48

-- b is the shortest text of n: it has no `+` and no leading zero, and has a `-` only if n is below 0 (this project's
-- profile)
pub record ShortestText (b : List ℕ) (n : ℤ) : Type 0 where
  pub text : NumberText b n
  pub no_plus : text.sign ≢ Plus
  pub no_leading_zero : IsTrue (begins_with_zero text.digits) → length text.digits ≡ 1
  pub minus_below_zero : text.sign ≡ Minus → n <ℤ pos 0
