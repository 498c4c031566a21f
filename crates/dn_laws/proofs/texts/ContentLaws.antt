-- A text reads as what the words of its lines say, without the lines that are skipped.
use Rattle.std.proofs.Common.{◌≡◌, ◌<◌, ◌-◌, ◌+◌, ◌^◌, ℕ, List, [], ◌∷◌, ◌++◌, length, length-append, filter, fold, Bool, cond, not, true, false, Some, None, inl, inr, refl, sym, ap, ◌∙◌, append_assoc, arith}
use Rattle.std.proofs.lemmas.Bool.{cases_Bool, cond-false}
use Rattle.std.proofs.lemmas.List.Elements.{filter-append}
use Rattle.dn_line.specs.declared.code.Code.TheVariants.{TooLong}
use Rattle.dn_line.specs.declared.line.Line.{Line}
use Rattle.dn_line.specs.declared.word.Word.{Word}
use Rattle.dn_line.specs.Faults.{first_fault}
use Rattle.dn_line.specs.Pieces.{has_bytes, lines, onto, parts, pieces}
use Rattle.dn_line.specs.Words.{is_blank, is_skip, said_words, words}
use Rattle.dn_instance.specs.Instances.{Instance}
use Rattle.dn_instance.specs.TextFaults.{is_too_long, line_tests}
use Rattle.dn_instance.specs.Texts.{IsClean, Reads, items_of, with_next}
use Rattle.dn_instance.specs.State.TextsSoFar.{fault_next}
use Rattle.dn_instance.proofs.CleanItems.{fault_is_next, in_time, items_push, skip_adds_none}
use Rattle.dn_instance.proofs.FirstFaults.{clean_there, fault_after, none_first}
use Rattle.dn_laws.specs.State.Contents.{kept_lines, kept_words}

-- a line is kept or not
kept : (skipped : Bool) (ws : List Word) (rest : List (List Word)) → skipped ≡ false
    → cond (not skipped) (ws ∷ rest) rest ≡ ws ∷ rest
kept skipped ws rest e = rw e refl

not_kept : (skipped : Bool) (ws : List Word) (rest : List (List Word)) → skipped ≡ true
    → cond (not skipped) (ws ∷ rest) rest ≡ rest
not_kept skipped ws rest e = rw e refl

-- the items after lines that are skipped are the items before them
pub items_kept : (before : List Line) (ls : List (List ℕ))
    → fold (λ b l. with_next b (said_words l)) before ls ≡ fold with_next before (kept_lines ls)
items_kept before [] = refl
items_kept before (l ∷ ls) = elim (cases_Bool (is_skip (said_words l))) [
  | inl e ↦
      ap (λ x. fold (λ b m. with_next b (said_words m)) x ls) (skip_adds_none before (said_words l) e)
      ∙ items_kept before ls
      ∙ ap (fold with_next before) (sym (not_kept (is_skip (said_words l)) (said_words l) (kept_lines ls) e))
  | inr e ↦
      items_kept (with_next before (said_words l)) ls
      ∙ ap (fold with_next before) (sym (kept (is_skip (said_words l)) (said_words l) (kept_lines ls) e))
]

-- none of these lines has a fault after these items, except that it can be too late
abbrev pub Fine : List Line → List (List Word) → Type 0
Fine before [] = Unit {0}
Fine before (ws ∷ rest) = (first_fault (line_tests before ws) ≡ None) × Fine (with_next before ws) rest

-- the faults of a line that is not skipped
tests_of : (b : List (List ℕ)) (l : List ℕ) → is_skip (said_words l) ≡ false → fault_after b l ≡ None
    → first_fault (line_tests (items_of b) (said_words l)) ≡ None
tests_of b l e h =
    let late = none_first (is_too_long (length b + 1)) TooLong _ h in
    ap first_fault (sym (cond-false (is_skip (said_words l)) [] (line_tests (items_of b) (said_words l)) e)) ∙ late.1

pub fine_of : (b rest ls : List (List ℕ)) → ls ≡ b ++ rest → IsClean ls → Fine (items_of b) (kept_lines rest)
fine_of b [] ls e clean = tt
fine_of b (l ∷ rest) ls e clean =
    let here = clean_there ls b rest l e clean in
    let on = fine_of (b ++ l ∷ []) rest ls (e ∙ sym (append_assoc b (l ∷ []) rest)) clean in
    let next : Fine (with_next (items_of b) (said_words l)) (kept_lines rest) = rw (items_push b l) at on in
    elim (cases_Bool (is_skip (said_words l))) [
      | inl s ↦ rw s (rw (skip_adds_none (items_of b) (said_words l) s) at next)
      | inr s ↦ rw s (tests_of b l s here, next)
    ]

-- what holds of lines holds of the lines behind the first of them
fine_at : (items : List Line) (b rest : List (List ℕ)) → Fine items (kept_lines (b ++ rest))
    → Fine (fold (λ x l. with_next x (said_words l)) items b) (kept_lines rest)
fine_at items [] rest fine = fine
fine_at items (l ∷ b) rest fine = elim (cases_Bool (is_skip (said_words l))) [
  | inl s ↦ rw (skip_adds_none items (said_words l) s) (fine_at items b rest (rw s at fine))
  | inr s ↦ fine_at (with_next items (said_words l)) b rest (rw s at fine).1
]

clean_of : (us : List (List ℕ)) → length us < 2 ^ 63 - 1 → Fine [] (kept_lines us) → IsClean us
clean_of us few fine n c f =
    let size = ap length f.lines_are ∙ length-append f.before (f.line ∷ f.after) in
    let low : length f.before < 2 ^ 63 - 2 = omega (arith, few, size) in
    let time = in_time (length f.before) (length f.before) refl low in
    let after = fine_at [] f.before (f.line ∷ f.after) (rw f.lines_are at fine) in
    let items = items_of f.before in
    let ws = said_words f.line in
    let fault : fault_next items ws ≡ Some c =
    sym (fault_is_next n items ws (ap is_too_long f.number_is ∙ time)) ∙ f.fault_is in
    elim (cases_Bool (is_skip ws)) [
      | inl s ↦ cc (rw s at fault)
      | inr s ↦
          let none : first_fault (line_tests items ws) ≡ None = (rw s at after).0 in
          let some : first_fault (line_tests items ws) ≡ Some c =
          sym (cond-false (is_skip ws) None (first_fault (line_tests items ws)) s) ∙ fault in
          cc (sym none ∙ some)
    ]

pub words_alone : (t u : List ℕ) (I : Instance) → kept_words t ≡ kept_words u → length (lines u) < 2 ^ 63 - 1
    → Reads t I → Reads u I
words_alone t u I same few r =
    let items : items_of (lines t) ≡ items_of (lines u) =
    items_kept [] (lines t) ∙ ap (fold with_next []) same ∙ sym (items_kept [] (lines u)) in
    record {
      clean = clean_of (lines u) few (rw same at (fine_of [] (lines t) (lines t) refl r.clean));
      whole = rw items at r.whole;
      instance_is = rw items at r.instance_is;
    }

-- a byte before the first piece
abbrev before_first : ℕ → List (List ℕ) → List (List ℕ)
before_first x [] = []
before_first x (p ∷ ps) = (x ∷ p) ∷ ps

pieces_onto : (x : ℕ) (closed : List (List ℕ)) (open_ : List ℕ)
    → (onto x closed open_).0 ++ (onto x closed open_).1 ∷ [] ≡ before_first x (closed ++ open_ ∷ [])
pieces_onto x [] open_ = refl
pieces_onto x (p ∷ ps) open_ = refl

onto_more : (x : ℕ) (closed : List (List ℕ)) (open_ : List ℕ) (more : List (List ℕ))
    → before_first x ((closed ++ open_ ∷ []) ++ more) ≡ before_first x (closed ++ open_ ∷ []) ++ more
onto_more x [] open_ more = refl
onto_more x (p ∷ ps) open_ more = refl

pieces_split : (sep : ℕ → Bool) (l m : List ℕ) (b : ℕ) → sep b ≡ true
    → pieces sep (l ++ b ∷ m) ≡ pieces sep l ++ pieces sep m
pieces_split sep [] m b h = rw h refl
pieces_split sep (x ∷ l) m b h = elim (cases_Bool (sep x)) [
  | inl e ↦ rw e (ap (λ ps. [] ∷ ps) (pieces_split sep l m b h))
  | inr e ↦
      let p = parts sep l in
      let q = parts sep (l ++ b ∷ m) in
      rw e (pieces_onto x q.0 q.1 ∙ ap (before_first x) (pieces_split sep l m b h)
      ∙ onto_more x p.0 p.1 (pieces sep m) ∙ ap (λ ps. ps ++ pieces sep m) (sym (pieces_onto x p.0 p.1)))
]

pub words_split : (l m : List ℕ) (b : ℕ) → is_blank b ≡ true → words (l ++ b ∷ m) ≡ words l ++ words m
words_split l m b h =
    ap (filter has_bytes) (pieces_split is_blank l m b h)
    ∙ filter-append has_bytes (pieces is_blank l) (pieces is_blank m)
