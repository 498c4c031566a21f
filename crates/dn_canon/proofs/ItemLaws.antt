-- Lemmas on texts whose lines spell items one after another without a fault: the text has no fault, and has these
-- items.
use Rattle.std.proofs.Common.{◌≡◌, ℕ, ◌+◌, ◌-◌, ◌<◌, ◌^◌, List, [], ◌∷◌, ◌++◌, length, Bool, false, cond, map, fold, Option, Some, None, refl, sym, ap, ◌∙◌, arith, append_assoc, append-nil, length-append}
use Rattle.std.proofs.lemmas.Bool.Decides.{nat_tests}
use Rattle.std.specs.List.{AllByRecursion, filter_map}
use Rattle.std.specs.Option.{option_or, option_map}
use Rattle.dn_line.specs.declared.code.Code.TheVariants.{TooLong}
use Rattle.dn_line.specs.declared.kind.Kind.{Kind}
use Rattle.dn_line.specs.declared.line.Line.{Line}
use Rattle.dn_line.specs.declared.word.Word.{Word}
use Rattle.dn_line.specs.Words.{said, said_words, is_skip}
use Rattle.dn_line.specs.Faults.{Test, first_fault, head_tests, field_tests, fields}
use Rattle.dn_line.specs.State.Spelling.{Slot, slots_of, kind_before, FitSlots, Spells}
use Rattle.dn_line.specs.LineTable.{kind_named}
use Rattle.dn_line.specs.Reading.{words_read}
use Rattle.dn_line.proofs.AnswerLaws.{read_item, spells_unskipped, spells_faultless}
use Rattle.dn_line.proofs.FaultLaws.{fault_append}
use Rattle.dn_instance.specs.Items.{Problem, problem_in, problem_of, kind_known}
use Rattle.dn_instance.specs.TextFaults.{item_spelled, is_too_long, item_tests, order_tests, line_tests, line_fault}
use Rattle.dn_instance.specs.Texts.{with_next, items_of, IsClean}
use Rattle.dn_instance.proofs.FirstFaults.{fault_after}
use Rattle.dn_instance.proofs.CleanItems.{item_some, items_push, none_both}
use Rattle.dn_sink.specs.Rows.{Cells}
use Rattle.dn_canon.proofs.RowLaws.{line_of, AllWords, said_are}

-- the words spell the item, and neither they nor the item have a fault after the items before it
pub record Follows (before : List Line) (ws : List Word) (i : Line) : Type 0 where
  pub spells : Spells (kind_known before) ws i
  pub order : first_fault (order_tests before ws) ≡ None
  pub own : first_fault (item_tests before (Some i)) ≡ None

-- words that fill the places of an item's line spell the item
pub spells_by : {known : Option Kind} {ws : List Word} {i : Line} {slots : List Slot} → slots_of i ≡ Some slots
    → FitSlots slots ws → known ≡ kind_before i → Spells known ws i
spells_by {slots = slots} e f k = record { slots = slots; slots_are = e; fit = f; kind_is = k }

-- each line spells its item, which follows the items before it
abbrev pub AllFollow : List Line → List Cells → List Line → Type 0
AllFollow before [] [] = Unit {0}
AllFollow before (r ∷ rs) (i ∷ items) = Follows before (map said r) i × AllFollow (before ++ i ∷ []) rs items
AllFollow before _ _ = ⊥

-- two lists of tests without a fault have none together
none_append : (ts us : List Test) → first_fault ts ≡ None → first_fault us ≡ None → first_fault (ts ++ us) ≡ None
none_append ts us h g = rw (fault_append ts us, h) g

-- a line that spells an item is read as this item
spells_item : {known : Option Kind} {i : Line} (l : List ℕ) → Spells known (said_words l) i
    → item_spelled (words_read known (said_words l)) ≡ Some i
spells_item {known} {i} l s =
    ap item_spelled ((read_item known l i (spells_unskipped known l i s)).1 s) ∙ item_some i _ s.slots_are

-- a line that is not skipped, and whose number is in range, has only the faults of its words
not_skipped : (b : Bool) (n : ℕ) (ts : List Test) → b ≡ false → is_too_long n ≡ false → first_fault ts ≡ None
    → first_fault ((TooLong, is_too_long n) ∷ cond b [] ts) ≡ None
not_skipped b n ts e f h = rw (e, f) h

-- a line whose number is in range has no fault, if its item follows the items before it
no_fault : (n : ℕ) (before : List Line) (l : List ℕ) (i : Line) → is_too_long n ≡ false
    → Follows before (said_words l) i → line_fault n before (said_words l) ≡ None
no_fault n before l i short f =
    let known = kind_known before in
    let ws = said_words l in
    let own = item_tests before (item_spelled (words_read known ws)) in
    let faultless =
    none_both (head_tests known ws) (field_tests (fields known ws)) (spells_faultless known ws i f.spells) in
    not_skipped (is_skip ws) n (line_tests before ws) (spells_unskipped known l i f.spells) short
    (none_append (head_tests known ws) (order_tests before ws ++ (field_tests (fields known ws) ++ own)) faultless.0
    (none_append (order_tests before ws) (field_tests (fields known ws) ++ own) f.order
    (none_append (field_tests (fields known ws)) own faultless.1 (rw (spells_item l f.spells) f.own))))

-- the items of lines that are read as lines of this kind
abbrev pub items_under : Option Kind → List (List ℕ) → List Line
items_under k ls = filter_map (λ l. item_spelled (words_read k (said_words l))) ls

-- the item of a problem line that declares this kind
pub record IsHead (r : Cells) (h : Line) (k : Kind) : Type 0 where
  pub words : AllWords r
  pub kind : kind_named (map said r) ≡ Some k
  pub declares : option_map (λ (p : Problem). p.kind) (problem_in h) ≡ Some k

module _ {r : Cells} {h : Line} {k : Kind} (head : IsHead r h k) where
  -- the kind is known from the problem line on
  known_is : (items : List Line) → kind_known (h ∷ items) ≡ Some k
  known_is items = by_problem (problem_in h) head.declares
    where
      by_problem : (o : Option Problem) → option_map (λ (p : Problem). p.kind) o ≡ Some k
          → option_map (λ (p : Problem). p.kind) (option_or o (problem_of items)) ≡ Some k
      by_problem None e = cc
      by_problem (Some p) e = e

  -- the items of the lines after the problem line depend only on its kind
  pub body_items : (before : List Line) (rs : List Cells) (items : List Line) → AllByRecursion AllWords rs
      → AllFollow (h ∷ before) rs items → items_under (Some k) (map line_of rs) ≡ items
  body_items before [] [] w f = refl
  body_items before (x ∷ rs) (i ∷ items) w f =
      let spells : Spells (Some k) (said_words (line_of x)) i =
      rw (said_are x w.0) (rw (known_is before) at f.0.spells) in
      rw (spells_item (line_of x) spells, body_items (before ++ i ∷ []) rs items w.1 f.1)
  body_items before _ _ w f = absurd f

-- the line of a row follows the items before it if the row does
line_follows : {before : List Line} {i : Line} (x : Cells) → AllWords x → Follows before (map said x) i
    → Follows before (said_words (line_of x)) i
line_follows x w f = rw (said_are x w) f

-- the line of a row appends its item
adds_item : (before : List Line) (x : Cells) (i : Line) → AllWords x → Follows before (map said x) i
    → with_next before (said_words (line_of x)) ≡ before ++ i ∷ []
adds_item before x i w f = rw (spells_item (line_of x) (line_follows x w f).spells)

-- the lines of rows append their items
rows_add : (before : List Line) (rs : List Cells) (items : List Line) → AllByRecursion AllWords rs
    → AllFollow before rs items → fold (λ xs l. with_next xs (said_words l)) before (map line_of rs) ≡ before ++ items
rows_add before [] [] w f = sym (append-nil before)
rows_add before (x ∷ rs) (i ∷ items) w f =
    ap (λ xs. fold (λ ys l. with_next ys (said_words l)) xs (map line_of rs)) (adds_item before x i w.0 f.0)
    ∙ rows_add (before ++ i ∷ []) rs items w.1 f.1
    ∙ append_assoc before (i ∷ []) items
rows_add before _ _ w f = absurd f

pub items_are : (rs : List Cells) (items : List Line) → AllByRecursion AllWords rs → AllFollow [] rs items
    → items_of (map line_of rs) ≡ items
items_are = rows_add []

-- each of the lines has no fault after the lines before it
parted_clean : (ls : List (List ℕ)) (before : List Line) (rs : List Cells) (items : List Line) (b : List (List ℕ))
    (l : List ℕ) (a : List (List ℕ)) → items_of ls ≡ before → AllByRecursion AllWords rs → AllFollow before rs items
    → map line_of rs ≡ b ++ l ∷ a → is_too_long (length (ls ++ b) + 1) ≡ false → fault_after (ls ++ b) l ≡ None
parted_clean ls before (x ∷ rs) (i ∷ items) [] l a e w f p short =
    let here : l ≡ line_of x = cc in
    rw (append-nil ls, here, e) (no_fault _ before (line_of x) i (rw append-nil at short) (line_follows x w.0 f.0))
parted_clean ls before (x ∷ rs) (i ∷ items) (y ∷ b) l a e w f p short =
    let here : y ≡ line_of x = cc in
    let more : items_of (ls ++ y ∷ []) ≡ before ++ i ∷ [] =
    rw (items_push ls y, e, here) (adds_item before x i w.0 f.0) in
    rw (← append_assoc ls (y ∷ []) b)
    (parted_clean (ls ++ y ∷ []) (before ++ i ∷ []) rs items b l a more w.1 f.1 (cc) (rw append_assoc short))
parted_clean ls before (x ∷ rs) [] b l a e w f p short = absurd f
parted_clean ls before [] items [] l a e w f p short = cc
parted_clean ls before [] items (y ∷ b) l a e w f p short = cc

-- rows whose items follow one another make a text without a fault
pub rows_clean : (rs : List Cells) (items : List Line) → AllByRecursion AllWords rs → AllFollow [] rs items
    → length (map line_of rs) < 2 ^ 63 - 1 → IsClean (map line_of rs)
rows_clean rs items w f few = λ n c at.
    let count : length at.before + 1 < 2 ^ 63 - 1 =
    omega (arith, ap length at.lines_are, length-append at.before (at.line ∷ at.after)) in
    let none : fault_after at.before at.line ≡ None =
    parted_clean [] [] rs items at.before at.line at.after refl w f at.lines_are (short _ count) in
    cc
  where
    short : (n : ℕ) → n < 2 ^ 63 - 1 → is_too_long n ≡ false
    short n g = grind (arith, nat_tests)
