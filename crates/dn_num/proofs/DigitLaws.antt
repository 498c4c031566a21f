-- The digits of a number make its decimal text.
use Rattle.std.proofs.Common.{◌≡◌, ℕ, ◌+◌, ◌-◌, ◌*◌, ◌/◌, ◌%◌, ◌^◌, ◌<◌, ◌≤◌, List, [], ◌∷◌, ◌++◌, zero, suc, refl, ap, sym, ◌∙◌, arith, length, take, drop, true, zero-mul, zero-add, pow-add, length-append}
use Rattle.std.proofs.lemmas.Bool.Decides.{nat_tests}
use Rattle.std.proofs.lemmas.Nat.{shr-shr, shr_le}
use Rattle.std.proofs.lemmas.List.{length-map, length-drop, get_or_append_left}
use Rattle.std.proofs.lemmas.Fmt.{decimal_nonempty, first_decimal, digits_decimal, digits_value-decimal}
use Rattle.std.specs.Fmt.{decimal}
use Rattle.std.specs.List.{list_all}
use Rattle.std.specs.Simd.Lanes.{Each1, number_l}
use Rattle.std.proofs.lemmas.List.Folds.{list_all-append}
use Rattle.std.proofs.lemmas.Bool.{ne_eqb, eqb-true, and_from}
use Rattle.dn_num.specs.State.Digits.{eight_digits, zeros_before, codes_of}
use Rattle.dn_num.specs.State.Lanes.{places}
use Rattle.dn_num.specs.Number.{is_digit, is_digits, digits_number}
use Rattle.dn_num.specs.State.NumberTexts.{begins_with_zero}
use Rattle.dn_num.proofs.LaneLaws.{high}
use Rattle.dn_num.proofs.ShortestLaws.{numerals, digits_are, some_digits, first_zero}

-- shifting a word right by z lanes drops its first z lanes
pub lowered : (z : ℕ) (cs : List ℕ) → Each1 (λ c. c < 256) cs → number_l 256 cs / 2 ^ (8 * z) ≡ number_l 256 (drop z cs)
lowered zero cs h = omega arith
lowered (suc z) [] h = omega (arith, shr_le 0 (8 * suc z))
lowered (suc z) (c ∷ cs) h =
    let n : ℕ = number_l 256 cs in
    let e : 8 * suc z ≡ 8 + 8 * z = omega arith in
    rw (e, ← shr-shr (c + 256 * n) 8 (8 * z), high 8 c n h.0) (lowered z cs h.1)

pub each_drop : (P : ℕ → Type 0) (z : ℕ) (cs : List ℕ) → Each1 P cs → Each1 P (drop z cs)
each_drop P zero cs h = h
each_drop P (suc z) [] h = tt
each_drop P (suc z) (c ∷ cs) h = each_drop P z cs h.1

pub codes_small : (ds : List ℕ) → Each1 (λ d. d < 10) ds → Each1 (λ c. c < 256) (codes_of ds)
codes_small [] h = tt
codes_small (d ∷ ds) h = (omega (arith, h.0), codes_small ds h.1)

-- the codes of digits spell the number that the digits represent
codes_value : (ds : List ℕ) → digits_number (codes_of ds) ≡ places ds
codes_value [] = refl
codes_value (d ∷ ds) =
    let e : d + 48 - 48 ≡ d = omega arith in rw (length-map ds (λ d. d + 48), e, codes_value ds)

codes_digits : (ds : List ℕ) → Each1 (λ d. d < 10) ds → list_all is_digit (codes_of ds) ≡ true
codes_digits [] h = refl
codes_digits (d ∷ ds) h = and_from (is_digit (d + 48)) _ (grind (arith, nat_tests, h.0)) (codes_digits ds h.1)

pub eight_places : (n : ℕ) → places (eight_digits n) ≡ n
eight_places n = omega arith

pub eight_small : (n : ℕ) → n < 100000000 → Each1 (λ d. d < 10) (eight_digits n)
eight_small n h = omega arith

-- a text of digits is a shortest text, and has the value of these digits
record Stripped (text ds : List ℕ) : Type 0 where
  digits : is_digits text ≡ true
  lead : begins_with_zero text ≡ true → length text ≡ 1
  value : digits_number text ≡ places ds

stripped : (d : ℕ) (ds : List ℕ) → Each1 (λ d. d < 10) (d ∷ ds)
    → Stripped (drop (zeros_before (d ∷ ds)) (codes_of (d ∷ ds))) (d ∷ ds)
stripped d [] h = record { digits = codes_digits (d ∷ []) h; lead = λ e. refl; value = codes_value (d ∷ []) }
stripped zero (e ∷ ds) h =
    let next = stripped e ds h.1 in
    let one : 1 + zeros_before (e ∷ ds) ≡ suc (zeros_before (e ∷ ds)) = omega arith in
    let none : places (zero ∷ e ∷ ds) ≡ places (e ∷ ds) = rw (zero-mul (10 ^ length (e ∷ ds))) (omega arith) in
    rw one (record { digits = next.digits; lead = next.lead; value = next.value ∙ sym none })
stripped (suc d) (e ∷ ds) h =
    rw (ne_eqb (suc d) 0 (λ q. omega arith))
    (record {
      digits = codes_digits (suc d ∷ e ∷ ds) h;
      lead = λ f. absurd (omega (arith, eqb-true (suc d + 48) 48 f));
      value = codes_value (suc d ∷ e ∷ ds);
    })

-- the eight digits of a number without leading zeros are its decimal text
pub short_decimal : (n : ℕ) → n < 100000000
    → drop (zeros_before (eight_digits n)) (codes_of (eight_digits n)) ≡ decimal n
short_decimal n h =
    let text : List ℕ = drop (zeros_before (eight_digits n)) (codes_of (eight_digits n)) in
    let s : Stripped text (eight_digits n) = stripped _ _ (eight_small n h) in
    let value : digits_number text ≡ n = s.value ∙ eight_places n in
    rw value at (sym (digits_are text s.digits s.lead (omega (arith, value))))

zeros_le : (ds : List ℕ) → zeros_before ds ≤ length ds - 1
zeros_le (zero ∷ e ∷ ds) = omega (arith, zeros_le (e ∷ ds))
zeros_le (suc d ∷ e ∷ ds) = rw (ne_eqb (suc d) 0 (λ q. omega arith)) (omega arith)
zeros_le _ = omega arith

few_zeros : (n z : ℕ) → z ≡ zeros_before (eight_digits n) → z ≤ 7
few_zeros n z e = rw e (zeros_le (eight_digits n))

-- a count of the leading zeros of eight digits is at most 7
pub zeros_few : (n w z : ℕ) → n < 100000000 → w ≡ number_l 256 (eight_digits n)
    → ((a b c d e f g h : ℕ) → Each1 (λ x. x < 10) (a ∷ b ∷ c ∷ d ∷ e ∷ f ∷ g ∷ h ∷ [])
    → w ≡ number_l 256 (a ∷ b ∷ c ∷ d ∷ e ∷ f ∷ g ∷ h ∷ [])
    → z ≡ zeros_before (a ∷ b ∷ c ∷ d ∷ e ∷ f ∷ g ∷ h ∷ [])) → z ≤ 7
zeros_few n w z few is count = few_zeros n z (count _ _ _ _ _ _ _ _ (eight_small n few) is)

-- what holds after the digits of a number, without leading zeros, have been written
pub record ShortPut (at z n : ℕ) (new front : List ℕ) : Type 0 where
  pub text : take (at + 8 - z) new ≡ front ++ decimal n
  pub end : at + 8 - z ≡ at + length (decimal n)

pub short_put : (at z w n : ℕ) (new front : List ℕ) → n < 100000000 → z ≡ zeros_before (eight_digits n)
    → w ≡ number_l 256 (codes_of (eight_digits n))
    → ((cs : List ℕ) → length cs ≤ 8 → Each1 (λ c. c < 256) cs → w / 2 ^ (8 * z) ≡ number_l 256 cs
    → take (at + length cs) new ≡ front ++ cs)
    → ShortPut at z n new front
short_put at z w n new front few zeros word put =
    let all : List ℕ = codes_of (eight_digits n) in
    let small = codes_small (eight_digits n) (eight_small n few) in
    let same : drop z all ≡ decimal n = rw zeros (short_decimal n few) in
    let long : length (drop z all) ≡ 8 - z = length-drop z all in
    let end : at + 8 - z ≡ at + length (decimal n) = omega (arith, few_zeros n z zeros, ap length same) in
    record {
      text =
          rw end
          (rw same at
          (put (drop z all) (omega arith) (each_drop (λ c. c < 256) z all small) (rw word (lowered z all small))));
      end = end;
    }

-- ---- numbers of more than eight digits

number_append : (ds es : List ℕ) → digits_number (ds ++ es) ≡ digits_number ds * 10 ^ length es + digits_number es
number_append [] es = rw (zero-mul, zero-add)
number_append (d ∷ ds) es =
    rw (length-append ds es, pow-add 10 (length ds) (length es), number_append ds es) (grind arith)

-- the decimal text of a number from 10^8 on ends with the eight digits of its remainder by 10^8
pub long_decimal : (n : ℕ) → 100000000 ≤ n → n < 2 ^ 64
    → decimal n ≡ decimal (n / 100000000) ++ codes_of (eight_digits (n % 100000000))
long_decimal n h fits =
    let high : ℕ = n / 100000000 in
    let ds : List ℕ = eight_digits (n % 100000000) in
    let text : List ℕ = decimal high ++ codes_of ds in
    let within : high < 2 ^ 64 = omega arith in
    let some : 0 < length (decimal high) = decimal_nonempty high within in
    let front = digits_value-decimal numerals high within in
    let back : digits_number (codes_of ds) ≡ n % 100000000 = codes_value ds ∙ eight_places (n % 100000000) in
    let value : digits_number text ≡ n =
    rw (number_append (decimal high) (codes_of ds), front, back) (omega arith) in
    let all =
    list_all-append is_digit (decimal high) (codes_of ds)
    ∙ and_from (list_all is_digit (decimal high)) (list_all is_digit (codes_of ds))
    (digits_decimal numerals high within)
    (codes_digits ds (eight_small (n % 100000000) (omega arith))) in
    rw value at
    (digits_are text (some_digits text (simp length-append (omega arith)) all)
    (λ e. absurd
    (omega (
      arith,
      first_zero text e,
      get_or_append_left (decimal high) (codes_of ds) 0 0 some,
      first_decimal high (omega arith) within,
    )))
    (omega (arith, value)))
