-- Lines whose words are numbers, separated by blanks.
use Rattle.std.proofs.Common.{to_z, of_z, w64, ◌≡◌, ℕ, ℤ, List, [], ◌∷◌, ◌++◌, true, append-nil, refl, ap, append_assoc, map, Ok}
use Rattle.std.specs.List.{list_all}
use Rattle.std.proofs.lemmas.Bool.{and_parts, and_from}
use Rattle.dn_num.specs.Number.{number_read}
use Rattle.dn_line.specs.Pieces.{parts, has_bytes}
use Rattle.dn_line.specs.Words.{is_blank, words}
use Rattle.dn_line.specs.State.LineStates.{is_clear, is_inner}
use Rattle.dn_line.specs.State.Numbers.{AreSomeBlanks, IsLineEnd, IsNumberBefore, IsNumberFront, AreNumbers, number_word}
use Rattle.dn_line.specs.declared.word.Word.{Word}
use Rattle.dn_line.proofs.ClearLaws.{all_weaker, other_byte, clear_first, clear_inner, clear_parts, inner_append, number_clear, number_said}

-- a run without blanks, followed by a blank, is a piece
run_parts : (w : List ℕ) (b : ℕ) (l : List ℕ) → list_all is_clear w ≡ true → is_blank b ≡ true
    → parts is_blank (w ++ b ∷ l) ≡ (w ∷ (parts is_blank l).0, (parts is_blank l).1)
run_parts [] b l h k = rw k
run_parts (x ∷ w) b l h k = let f = clear_first x w h in rw (f.0, run_parts w b l f.1.1 k)

-- a run without blanks, followed by a blank, is the first word
pub run_words : (w : List ℕ) (b : ℕ) (l : List ℕ) → list_all is_clear w ≡ true → has_bytes w ≡ true → is_blank b ≡ true
    → words (w ++ b ∷ l) ≡ w ∷ words l
run_words w b l h k e = rw (run_parts w b l h e, k)

-- a run without blanks is the only word
run_alone : (w : List ℕ) → list_all is_clear w ≡ true → has_bytes w ≡ true → words w ≡ w ∷ []
run_alone w h k = rw (clear_parts [] w h, k)

pub blanks_words : (bs l : List ℕ) → list_all is_blank bs ≡ true → words (bs ++ l) ≡ words l
blanks_words [] l h = refl
blanks_words (b ∷ bs) l h = let f = and_parts (is_blank b) (list_all is_blank bs) h in rw f.0 (blanks_words bs l f.1)

pub blank_inner : (b : ℕ) → is_blank b ≡ true → is_inner b ≡ true
blank_inner b h = rw (other_byte is_blank b 10 refl h)

pub blanks_inner : (bs : List ℕ) → list_all is_blank bs ≡ true → list_all is_inner bs ≡ true
blanks_inner = all_weaker is_blank is_inner blank_inner

-- a run without blanks, followed by any blanks, is the only word
run_last : (w bs : List ℕ) → list_all is_clear w ≡ true → has_bytes w ≡ true → list_all is_blank bs ≡ true
    → words (w ++ bs) ≡ w ∷ []
run_last w [] h k e = rw append-nil (run_alone w h k)
run_last w (b ∷ bs) h k e =
    let f = and_parts (is_blank b) (list_all is_blank bs) e in
    rw (run_words w b bs h k f.0, rw append-nil at (blanks_words bs [] f.1))

some_bytes : (w : List ℕ) (v : ℤ) → number_read w ≡ Ok v → has_bytes w ≡ true
some_bytes [] v h = cc
some_bytes w v h = refl

-- a number that passes through a conversion unchanged
abbrev pub Kept : ℤ → Type 0
Kept n = to_z w64 (of_z w64 n) ≡ n

-- one number, any blanks and LF are a line of one number
pub last_number : {bytes left rest : List ℕ} {v : ℤ} → IsNumberFront bytes v left → Kept v → IsLineEnd left rest
    → AreNumbers bytes (to_z w64 (of_z w64 v) ∷ []) rest
last_number {rest = rest} {v = v} n kept e =
    let clear = number_clear n.word v n.reads in
    let bs = e.blanks.blanks in
    rw kept
    (record {
      line = n.word ++ bs;
      whole = rw (append_assoc, e.blanks.whole) n.whole;
      inner = inner_append n.word bs (clear_inner n.word clear) (blanks_inner bs e.blanks.all);
      says =
          rw (run_last n.word bs clear (some_bytes n.word v n.reads) e.blanks.all)
          (ap (λ (w : Word). w ∷ []) (number_said n.word v n.reads));
    })

-- a number followed by blanks
pub number_gap : {bytes left rest : List ℕ} {v : ℤ} → IsNumberFront bytes v left → AreSomeBlanks left rest
    → IsNumberBefore bytes v rest
number_gap n g = record { left = _; front = n; gap = g }

-- a number and blanks before a line of numbers make a line of one more number
pub more_numbers : {bytes left rest : List ℕ} {v : ℤ} {vs : List ℤ} → IsNumberBefore bytes v left → Kept v
    → AreNumbers left vs rest → AreNumbers bytes (to_z w64 (of_z w64 v) ∷ vs) rest
more_numbers {rest = rest} {v = v} {vs = vs} n kept m =
    let f = n.front in
    let g = n.gap in
    let bs = g.then.blanks in
    let clear = number_clear f.word v f.reads in
    let tail : List ℕ = bs ++ m.line in
    rw kept
    (record {
      line = f.word ++ g.blank ∷ tail;
      whole = rw (append_assoc, append_assoc, m.whole, g.then.whole, g.whole) f.whole;
      inner =
          inner_append f.word (g.blank ∷ tail) (clear_inner f.word clear)
          (and_from (is_inner g.blank) (list_all is_inner tail) (blank_inner g.blank g.is)
          (inner_append bs m.line (blanks_inner bs g.then.all) m.inner));
      says =
          rw (
            run_words f.word g.blank tail clear (some_bytes f.word v f.reads) g.is,
            blanks_words bs m.line g.then.all,
            m.says,
          ) (ap (λ (w : Word). w ∷ map number_word vs) (number_said f.word v f.reads));
    })
