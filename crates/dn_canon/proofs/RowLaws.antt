-- Lemmas on the lines of printed rows and the words of these lines.
use Rattle.std.proofs.Common.{inl, inr, ◌≡◌, ℕ, zero, suc, ◌/◌, ◌%◌, ℤ, pos, negsuc, List, [], ◌∷◌, ◌++◌, Bool, true, false, nat_lt, nat_eq, map, refl, sym, ap, ◌∙◌, append_assoc, append-nil, arith}
use Rattle.std.proofs.lemmas.Bool.Decides.{nat_tests}
use Rattle.std.proofs.lemmas.List.Elements.{All-nil, All-cons}
use Rattle.std.specs.List.{All, AllByRecursion, join_with_byte}
use Rattle.std.specs.Fmt.{digits, digits_onto, digit_glyph, decimal, signed_decimal}
use Rattle.std.proofs.lemmas.Bool.{cases_Bool}
use Rattle.dn_line.specs.Pieces.{parts, lines, is_line_feed}
use Rattle.dn_line.specs.Words.{is_blank, words, said, said_words}
use Rattle.dn_line.specs.State.Runs.{AllBlank, IsWord, AreRuns}
use Rattle.dn_line.proofs.RunLaws.{runs_only}
use Rattle.dn_sink.specs.Rows.{Cells, text_of}

-- the line of a row, without its LF
abbrev pub line_of : Cells → List ℕ
line_of = join_with_byte 32

-- all bytes are above the space, so neither blanks nor LFs
abbrev AllInk : List ℕ → Type 0
AllInk w = AllByRecursion (λ b. let t : Bool = nat_lt 32 b in t ≡ true) w

-- at least one byte, and all bytes above the space
abbrev pub IsInk : List ℕ → Type 0
IsInk [] = ⊥
IsInk (b ∷ bs) = AllInk (b ∷ bs)

-- each word of the row is such a list of bytes
abbrev pub AllWords : Cells → Type 0
AllWords = AllByRecursion IsInk

-- all bytes of a word are above the space
ink_of : (w : List ℕ) → IsInk w → AllInk w
ink_of [] h = absurd h
ink_of (b ∷ bs) h = h

-- no byte is an LF
abbrev NoFeed : List ℕ → Type 0
NoFeed = AllByRecursion (λ b. is_line_feed b ≡ false)

-- a byte above the space is neither a blank nor an LF
ink_plain : (b : ℕ) → nat_lt 32 b ≡ true → is_blank b ≡ false
ink_plain b h = grind (arith, nat_tests)

ink_no_feed : (b : ℕ) → nat_lt 32 b ≡ true → is_line_feed b ≡ false
ink_no_feed b h = grind (arith, nat_tests)

-- a word contains no blank
no_blank : (w : List ℕ) → AllInk w → All (λ b. is_blank b ≡ false) w
no_blank [] h = All-nil _
no_blank (b ∷ bs) h = All-cons (λ x. is_blank x ≡ false) b bs (ink_plain b h.0) (no_blank bs h.1)

-- bytes above the space are a word of a line
word_is : (w : List ℕ) → IsInk w → IsWord w
word_is [] h = absurd h
word_is (b ∷ bs) h = (λ e. cc, no_blank (b ∷ bs) h)

-- a word contains no LF, nor does what follows it if that contains none
word_feed : (w m : List ℕ) → AllInk w → NoFeed m → NoFeed (w ++ m)
word_feed [] m h k = k
word_feed (b ∷ bs) m h k = (ink_no_feed b h.0, word_feed bs m h.1 k)

-- the line of a row contains no LF
line_feed : (r : Cells) → AllWords r → NoFeed (line_of r)
line_feed [] h = tt
line_feed (w ∷ []) h = rw append-nil at (word_feed w [] (ink_of w h.0) tt)
line_feed (w ∷ x ∷ xs) h = word_feed w (32 ∷ line_of (x ∷ xs)) (ink_of w h.0) (refl, line_feed (x ∷ xs) h.1)

-- after blanks, the words of a row are the runs of its line
row_runs : (gap : List ℕ) (r : Cells) → AllBlank gap → AllWords r → AreRuns (gap ++ line_of r) r
row_runs gap [] g h = rw append-nil g
row_runs gap (w ∷ []) g h = record {
  gap = gap;
  rest = [];
  line_is = rw append-nil;
  blanks = g;
  word = word_is w h.0;
  breaks = tt;
  goes = All-nil _;
}
row_runs gap (w ∷ x ∷ xs) g h = record {
  gap = gap;
  rest = 32 ∷ line_of (x ∷ xs);
  line_is = refl;
  blanks = g;
  word = word_is w h.0;
  breaks = refl;
  goes = row_runs (32 ∷ []) (x ∷ xs) (All-cons (λ b. is_blank b ≡ true) 32 [] refl (All-nil _)) h.1;
}

-- the words of a row's line are the row
words_are : (r : Cells) → AllWords r → words (line_of r) ≡ r
words_are r h = sym (runs_only (line_of r) r (row_runs [] r (All-nil _) h))

-- the words of a row's line say what the row's words say
pub said_are : (r : Cells) → AllWords r → said_words (line_of r) ≡ map said r
said_are r h = ap (map said) (words_are r h)

-- the first LF ends the first part
first_part : (l rest : List ℕ) → NoFeed l
    → parts is_line_feed (l ++ 10 ∷ rest) ≡ (l ∷ (parts is_line_feed rest).0, (parts is_line_feed rest).1)
first_part [] rest h = refl
first_part (b ∷ bs) rest h = rw (h.0, first_part bs rest h.1) refl

-- the lines of a printed text are the lines of its rows
pub lines_are : (rs : List Cells) → AllByRecursion AllWords rs → lines (text_of rs) ≡ map line_of rs
lines_are [] h = refl
lines_are (r ∷ rs) h =
    rw append_assoc (rw (first_part (line_of r) (text_of rs) (line_feed r h.0))
    (ap (λ ls. line_of r ∷ ls) (lines_are rs h.1)))

-- the words of the rows' lines are the rows
all_words_are : (rs : List Cells) → AllByRecursion AllWords rs → map words (map line_of rs) ≡ rs
all_words_are [] h = refl
all_words_are (r ∷ rs) h = rw (words_are r h.0, all_words_are rs h.1)

-- rows with the same text are equal
pub rows_one : (rs ss : List Cells) → AllByRecursion AllWords rs → AllByRecursion AllWords ss → text_of rs ≡ text_of ss
    → rs ≡ ss
rows_one rs ss h k e =
    let same : map line_of rs ≡ map line_of ss = sym (lines_are rs h) ∙ ap lines e ∙ lines_are ss k in
    sym (all_words_are rs h) ∙ ap (map words) same ∙ all_words_are ss k

-- a digit is above the space
glyph_ink : (d : ℕ) → nat_lt 32 (digit_glyph false d) ≡ true
glyph_ink d = grind (arith, nat_tests)

-- digits written before a word make a word
more_digits : (k n c : ℕ) (acc : List ℕ) → IsInk (c ∷ acc) → IsInk (digits_onto k 10 false n (c ∷ acc))
more_digits zero n c acc h = h
more_digits (suc k) n c acc h =
    let g = digit_glyph false (n % 10) in
    elim (cases_Bool (nat_eq (n / 10) 0)) [
      | inl e ↦ rw e (glyph_ink (n % 10), h)
      | inr e ↦ rw e (more_digits k (n / 10) g (c ∷ acc) (glyph_ink (n % 10), h))
    ]

-- the digits of a number are a word
some_digits : (k n : ℕ) → IsInk (digits_onto (suc k) 10 false n [])
some_digits k n =
    let g = digit_glyph false (n % 10) in
    elim (cases_Bool (nat_eq (n / 10) 0)) [
      | inl e ↦ rw e (glyph_ink (n % 10), tt)
      | inr e ↦ rw e (more_digits k (n / 10) g [] (glyph_ink (n % 10), tt))
    ]

-- a decimal is a word
decimal_word : (n : ℕ) → IsInk (decimal n)
unfolding digits
decimal_word n = some_digits 63 n

-- the shortest text of a number is a word
pub number_word : (n : ℤ) → IsInk (signed_decimal n)
number_word (pos n) = decimal_word n
number_word (negsuc n) = (refl, ink_of _ (decimal_word (suc n)))

-- the shortest texts of numbers are words
pub number_words : (ns : List ℤ) → AllWords (map signed_decimal ns)
number_words [] = tt
number_words (n ∷ ns) = (number_word n, number_words ns)
