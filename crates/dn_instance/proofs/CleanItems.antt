-- Lemmas on the items of a text without a fault: each line adds no item, or one that has no fault after those before
-- it. And on the complete lines and one more line.
use Rattle.std.proofs.Common.{◌≡◌, ℕ, ◌+◌, List, [], ◌∷◌, ◌++◌, length, true, false, Option, Some, None, Ok, refl, sym, ap, ◌∙◌, append-nil, inl, inr, suc, ◌-◌, ◌^◌, ◌<◌, ◌≤◌, arith, length-append, ◌⊎◌, add-one}
use Rattle.dn_line.specs.declared.code.Code.{Code}
use Rattle.std.proofs.lemmas.Bool.{cases_Bool, cond-false}
use Rattle.std.specs.Option.{option_or}
use Rattle.std.proofs.lemmas.List.Sums.{fold-append}
use Rattle.dn_line.specs.declared.code.Code.TheVariants.{NodeOutOfRange, RepeatedNode, SameTerminal, LowAboveCap, SumTooLarge, TooLong}
use Rattle.dn_line.specs.declared.line.Line.{Line}
use Rattle.dn_line.specs.declared.line.Line.TheVariants as Item
use Rattle.dn_line.specs.declared.word.Word.{Word}
use Rattle.dn_line.specs.Words.{said_words, is_skip}
use Rattle.dn_line.specs.Faults.{Test, first_fault, head_tests, field_tests, fields}
use Rattle.dn_line.specs.State.Spelling.{Slot, slots_of, Spells}
use Rattle.dn_line.specs.Reading.{words_read, spelled}
use Rattle.dn_line.proofs.FaultLaws.{fault_append}
use Rattle.dn_line.proofs.SpellingLaws.{faultless_spells}
use Rattle.dn_line.proofs.AnswerLaws.{read_item}
use Rattle.dn_instance.specs.Items.{problem_in, kind_known}
use Rattle.dn_instance.specs.Items as Of
use Rattle.dn_instance.specs.TextFaults.{item_spelled, is_too_long, is_stray, is_repeated, is_same_terminal, is_low_above_cap, is_sum_too_large, item_tests, order_tests, line_tests, line_fault}
use Rattle.dn_instance.specs.Texts.{with_next, items_of, IsClean}
use Rattle.dn_instance.proofs.FirstFaults.{fault_after, by_clean_lines, none_first}
use Rattle.std.proofs.lemmas.Bool.Decides.{nat_tests}
use Rattle.dn_instance.specs.declared.text_so_far.TextSoFar.{TextSoFar}
use Rattle.dn_instance.specs.State.TextsSoFar.{HasRead, TextAt, fault_next}

-- a line spells this item, which has no fault after these items
pub record IsNext (before : List Line) (i : Line) : Type 0 where
  pub line : List ℕ
  pub spells : Spells (kind_known before) (said_words line) i
  pub in_range : is_stray before i ≡ false
  pub once : is_repeated before i ≡ false
  pub apart : is_same_terminal before i ≡ false
  pub low : is_low_above_cap i ≡ false
  pub sum : is_sum_too_large before i ≡ false

pub or_none : {X : Type 0} (x : Option X) → option_or x None ≡ x
or_none None = refl
or_none (Some x) = refl

pub or_assoc : {X : Type 0} (x y z : Option X) → option_or x (option_or y z) ≡ option_or (option_or x y) z
or_assoc None y z = refl
or_assoc (Some x) y z = refl

pub none_both : (ts us : List Test) → first_fault (ts ++ us) ≡ None → (first_fault ts ≡ None) × (first_fault us ≡ None)
none_both ts us h = both_none (first_fault ts) (rw (fault_append ts us) at h)
  where
    both_none : (x : Option Code) → option_or x (first_fault us) ≡ None → (x ≡ None) × (first_fault us ≡ None)
    both_none None h = (refl, h)
    both_none (Some x) h = cc

pub problem_push : (xs : List Line) (i : Line)
    → Of.problem_of (xs ++ i ∷ []) ≡ option_or (Of.problem_of xs) (problem_in i)
problem_push [] i = or_none (problem_in i)
problem_push (x ∷ xs) i = rw (problem_push xs i) (or_assoc (problem_in x) (Of.problem_of xs) (problem_in i))

-- the items of the lines and of one more line
pub items_push : (ls : List (List ℕ)) (l : List ℕ) → items_of (ls ++ l ∷ []) ≡ with_next (items_of ls) (said_words l)
items_push ls l = fold-append (λ before x. with_next before (said_words x)) [] ls (l ∷ [])

-- a skipped line adds no item
pub skip_adds_none : (before : List Line) (ws : List Word) → is_skip ws ≡ true → with_next before ws ≡ before
skip_adds_none before ws e = rw e (append-nil before)

-- the head, the fields and the item of a line have no fault
pub record NoFault (before : List Line) (ws : List Word) : Type 0 where
  head : first_fault (head_tests (kind_known before) ws) ≡ None
  fields : first_fault (field_tests (fields (kind_known before) ws)) ≡ None
  item : first_fault (item_tests before (item_spelled (words_read (kind_known before) ws))) ≡ None

pub no_fault : (n : ℕ) (before : List Line) (ws : List Word) → is_skip ws ≡ false → line_fault n before ws ≡ None
    → NoFault before ws
no_fault n before ws e h =
    let known = kind_known before in
    let own = field_tests (fields known ws) in
    let item = item_tests before (item_spelled (words_read known ws)) in
    let late = none_first (is_too_long n) TooLong _ h in
    let all = ap first_fault (sym (cond-false (is_skip ws) [] (line_tests before ws) e)) ∙ late.1 in
    let one = none_both (head_tests known ws) (order_tests before ws ++ (own ++ item)) all in
    let two = none_both own item (none_both (order_tests before ws) (own ++ item) one.1).1 in
    record { head = one.0; fields = two.0; item = two.1 }

pub item_some : (i : Line) (slots : List Slot) → slots_of i ≡ Some slots → item_spelled (Ok i) ≡ Some i
item_some Item.Skip slots h = cc
item_some _ slots h = refl

next_from : (before : List Line) (l : List ℕ) (i : Line) → Spells (kind_known before) (said_words l) i
    → first_fault (item_tests before (Some i)) ≡ None → IsNext before i
next_from before l i s h =
    let a = none_first (is_stray before i) NodeOutOfRange _ h in
    let b = none_first (is_repeated before i) RepeatedNode _ a.1 in
    let c = none_first (is_same_terminal before i) SameTerminal _ b.1 in
    let d = none_first (is_low_above_cap i) LowAboveCap _ c.1 in
    let e = none_first (is_sum_too_large before i) SumTooLarge _ d.1 in
    record { line = l; spells = s; in_range = a.0; once = b.0; apart = c.0; low = d.0; sum = e.0 }

-- what a line without a fault reads as under the known kind
record ReadsNext (before : List Line) (l : List ℕ) : Type 0 where
  item : Line
  next : IsNext before item
  read : item_spelled (words_read (kind_known before) (said_words l)) ≡ Some item

reads_next : (before : List Line) (l : List ℕ) → is_skip (said_words l) ≡ false → NoFault before (said_words l)
    → ReadsNext before l
reads_next before l e n =
    let known = kind_known before in
    let ws = said_words l in
    let i = spelled known ws in
    let s =
    faultless_spells known ws
    (rw (fault_append (head_tests known ws) (field_tests (fields known ws)), n.head) n.fields) in
    let some : item_spelled (words_read known ws) ≡ Some i =
    ap item_spelled ((read_item known l i e).1 s) ∙ item_some i s.slots s.slots_are in
    record { item = i; next = next_from before l i s (rw some at n.item); read = some }

-- what holds of no items, and also with each next item, holds of the items of a text without a fault
module _ (Q : List Line → Type 0)
    (go : (before : List Line) (i : Line) → Q before → IsNext before i → Q (before ++ i ∷ [])) where
  one_line : (ls : List (List ℕ)) (l : List ℕ) → fault_after ls l ≡ None → Q (items_of ls) → Q (items_of (ls ++ l ∷ []))
  one_line ls l h q = elim (cases_Bool (is_skip (said_words l))) [
    | inl e ↦ rw (items_push ls l, skip_adds_none (items_of ls) (said_words l) e) q
    | inr e ↦
        let r = reads_next (items_of ls) l e (no_fault (length ls + 1) (items_of ls) (said_words l) e h) in
        rw (items_push ls l, r.read) (go (items_of ls) r.item q r.next)
  ]

  pub by_items : Q [] → (ls : List (List ℕ)) → IsClean ls → Q (items_of ls)
  by_items none ls clean = by_clean_lines (λ xs. Q (items_of xs)) ls clean one_line none

-- a line that is not too long has only the faults of its words and its item
pub fault_is_next : (n : ℕ) (before : List Line) (ws : List Word) → is_too_long n ≡ false
    → line_fault n before ws ≡ fault_next before ws
fault_is_next n before ws h = elim (cases_Bool (is_skip ws)) [ inl e ↦ rw (h, e) | inr e ↦ rw (h, e) ]

pub too_long : (n : ℕ) (before : List Line) (ws : List Word) → is_too_long n ≡ true
    → line_fault n before ws ≡ Some TooLong
too_long n before ws h = rw h

pub is_late : (n m : ℕ) → m ≡ n → 2 ^ 63 - 2 ≤ m → is_too_long (n + 1) ≡ true
is_late n m e h = grind (arith, nat_tests)

-- a line of a list with one more line is the last line, or a line of the list
pub split : (ls before after : List (List ℕ)) (l m : List ℕ) → ls ++ l ∷ [] ≡ before ++ m ∷ after
    → ((before ≡ ls) × (m ≡ l)) ⊎ ((a : List (List ℕ)) × (ls ≡ before ++ m ∷ a))
split [] [] after l m e = let same : m ≡ l = cc in inl (refl, same)
split [] (b ∷ before) after l m e = absurd (omega (arith, ap length e, length-append before (m ∷ after)))
split (x ∷ ls) [] after l m e = let same : x ≡ m = cc in inr (ls, rw same)
split (x ∷ ls) (b ∷ before) after l m e =
    let same : x ≡ b = cc in
    elim (split ls before after l m (cc)) [
      | inl f ↦ inl (rw (same, f.0), f.1)
      | inr h ↦ inr (h.0, rw (same, h.1))
    ]

-- no lines have no fault
pub no_lines : IsClean []
no_lines number code f = omega (arith, ap length f.lines_are, length-append f.before (f.line ∷ f.after))

-- lines without a fault, followed by one more, have no fault
pub clean_more : (ls : List (List ℕ)) (l : List ℕ) → IsClean ls → fault_after ls l ≡ None → IsClean (ls ++ l ∷ [])
clean_more ls l clean h number code f = elim (split ls f.before f.after l f.line f.lines_are) [
  | inl e ↦ cc (h, rw (e.0, e.1, f.number_is) at f.fault_is)
  | inr (a, e) ↦
      clean number code
      (record
      { before = f.before; line = f.line; after = a; lines_are = e; number_is = f.number_is; fault_is = f.fault_is })
]

-- one more line has been read
pub read_more : (t : TextSoFar) (ls : List (List ℕ)) (l : List ℕ) (u : TextSoFar) → TextAt t ls
    → fault_after ls l ≡ None → u.closed ≡ suc (length ls) → suc (length ls) < 2 ^ 63 - 1
    → HasRead u (with_next (items_of ls) (said_words l)) → TextAt u (ls ++ l ∷ [])
read_more t ls l u h f number few p =
    let n = length-append ls (l ∷ []) ∙ add-one (length ls) in
    record {
      clean = clean_more ls l h.clean f;
      few = rw n few;
      number_is = rw n number;
      items_are = rw (items_push ls l) p;
    }

pub in_time : (n m : ℕ) → m ≡ n → m < 2 ^ 63 - 2 → is_too_long (n + 1) ≡ false
in_time n m e h = grind (arith, nat_tests)

pub few_more : (n : ℕ) → is_too_long (n + 1) ≡ false → suc n < 2 ^ 63 - 1
few_more n h = grind (arith, nat_tests)
