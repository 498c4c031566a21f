-- The arc lines of lines without a fault are the arcs among their items.
use Rattle.std.proofs.Common.{◌≡◌, ℕ, ◌+◌, List, [], ◌∷◌, ◌++◌, length, cond, Option, Some, None, Ok, inl, inr, refl, sym, ap, ◌∙◌, append-nil, arith}
use Rattle.std.proofs.lemmas.Bool.{cases_Bool, cond-false}
use Rattle.std.proofs.lemmas.List.{map-append}
use Rattle.std.proofs.lemmas.List.Elements.{filter_map-append}
use Rattle.std.specs.Option.{option_map, option_or, option_to_list}
use Rattle.dn_line.specs.declared.code.Code.TheVariants.{TooLong}
use Rattle.dn_line.specs.declared.kind.Kind.{Kind}
use Rattle.dn_line.specs.declared.kind.Kind.TheVariants as Kinds
use Rattle.dn_line.specs.declared.line.Line.{Line}
use Rattle.dn_line.specs.declared.line.Line.TheVariants as Item
use Rattle.dn_line.specs.Pieces.{is_line_feed, lines, parts}
use Rattle.dn_line.specs.State.LineStates.{if_any}
use Rattle.dn_line.specs.Words.{is_skip, said_words}
use Rattle.dn_line.specs.Faults.{first_fault, field_tests, fields, head_tests}
use Rattle.dn_line.specs.Reading.{spelled, words_read}
use Rattle.dn_line.specs.State.Spelling.{kind_before}
use Rattle.dn_line.proofs.AnswerLaws.{read_item}
use Rattle.dn_line.proofs.FaultLaws.{fault_append}
use Rattle.dn_line.proofs.PartsLaws.{Parts, parts_closed}
use Rattle.dn_instance.specs.Items.{Problem, kind_known, problem_in, problem_of}
use Rattle.dn_instance.specs.TextFaults.{is_too_long, item_spelled, item_tests, line_tests, order_tests}
use Rattle.dn_instance.specs.Texts.{IsClean, items_of}
use Rattle.dn_instance.proofs.CleanItems.{items_push, none_both, or_none, problem_push}
use Rattle.dn_instance.proofs.FirstFaults.{by_clean_lines, none_first}
use Rattle.dn_instance.proofs.FirstFaults as Faults
use Rattle.dn_arc_lines.specs.State.ArcLines.{arc_line_in, arc_line_read, arc_lines, arc_lines_from, arcs_among, fault_from, fault_read, kind_in, kind_then, read_by_itself, without_line, without_lines}
use Rattle.dn_arc_lines.specs.State.Reading.{kind_after}
use Rattle.dn_arc_lines.proofs.LinesLaws as Lines

-- an arc is of the known kind
abbrev pub FitsKind : Option Kind → Line → Type 0
FitsKind known (Item.MinArc src dst low cap cost) = known ≡ Some Kinds.Min
FitsKind known (Item.MaxArc src dst cap) = known ≡ Some Kinds.Max
FitsKind known (Item.SpArc src dst length) = known ≡ Some Kinds.Sp
FitsKind known _ = Unit {0}

abbrev pub AllFit : Option Kind → List Line → Type 0
AllFit known [] = Unit {0}
AllFit known (i ∷ items) = FitsKind known i × AllFit known items

fits : (known : Option Kind) (i : Line) → known ≡ kind_before i → FitsKind known i
fits known (Item.MinArc src dst low cap cost) e = e
fits known (Item.MaxArc src dst cap) e = e
fits known (Item.SpArc src dst length) e = e
fits known i e = tt

-- an arc that fits no kind is none
keep : (known x : Option Kind) (i : Line) → FitsKind known i → FitsKind (option_or known x) i
keep (Some kind) x i h = h
keep None x (Item.MinArc src dst low cap cost) h = cc
keep None x (Item.MaxArc src dst cap) h = cc
keep None x (Item.SpArc src dst length) h = cc
keep None x i h = tt

all_push : (known x : Option Kind) (items : List Line) (i : Line) → AllFit known items → FitsKind known i
    → AllFit (option_or known x) (items ++ i ∷ [])
all_push known x [] i h f = (keep known x i f, tt)
all_push known x (j ∷ items) i h f = (keep known x j h.0, all_push known x items i h.1 f)

all_none : (known : Option Kind) (items : List Line) → AllFit known items → AllFit (option_or known None) items
all_none known items h = rw (or_none known) h

fit_push : (known : Option Kind) (items : List Line) (i : Line) → AllFit known items → FitsKind known i
    → AllFit (option_or known (kind_in i)) (items ++ option_to_list (item_spelled (Ok i)))
fit_push known items Item.Skip h f = rw (append-nil items) (all_none known items h)
fit_push known items (Item.Graph kind nodes arcs) h f =
    all_push known (Some kind) items (Item.Graph kind nodes arcs) h f
fit_push known items (Item.Aux kind count) h f = all_push known (Some kind) items (Item.Aux kind count) h f
fit_push known items i h f = all_push known None items i h f

-- a line without a fault reads as something by itself
record ReadsSome (known : Option Kind) (n : ℕ) (l : List ℕ) : Type 0 where
  item : Line
  words : words_read known (said_words l) ≡ Ok item
  reads : read_by_itself known n l ≡ Ok item
  fits : FitsKind known item

reads_some : (ls : List (List ℕ)) (l : List ℕ) → Faults.fault_after ls l ≡ None
    → ReadsSome (kind_known (items_of ls)) (length ls + 1) l
reads_some ls l h =
    let ws = said_words l in
    let before = items_of ls in
    let known = kind_known before in
    let others = first_fault (cond (is_skip ws) [] (line_tests before ws)) in
    let late = none_first (is_too_long (length ls + 1)) TooLong others h in
    elim (cases_Bool (is_skip ws)) [
      | inl e ↦
          let words : words_read known ws ≡ Ok Item.Skip = rw e in
          record { item = Item.Skip; words = words; reads = rw late.0 words; fits = tt }
      | inr e ↦
          let own = field_tests (fields known ws) in
          let items = item_tests before (item_spelled (words_read known ws)) in
          let all = ap first_fault (sym (cond-false (is_skip ws) [] (line_tests before ws) e)) ∙ late.1 in
          let one = none_both (head_tests known ws) (order_tests before ws ++ (own ++ items)) all in
          let two = none_both own items (none_both (order_tests before ws) (own ++ items) one.1).1 in
          let words : words_read known ws ≡ Ok (spelled known ws) =
          rw (e, fault_append (head_tests known ws) own, one.0, two.0) in
          record {
            item = spelled known ws;
            words = words;
            reads = rw late.0 words;
            fits = fits known (spelled known ws) ((read_item known l (spelled known ws) e).0 words).kind_is;
          }
    ]

either : (x y : Option Problem) → option_map (λ (p : Problem). p.kind) (option_or x y)
    ≡ option_or (option_map (λ (p : Problem). p.kind) x) (option_map (λ (p : Problem). p.kind) y)
either None y = refl
either (Some p) y = refl

kind_more : (before : List Line) (i : Line)
    → kind_known (before ++ i ∷ [])
    ≡ option_or (kind_known before) (option_map (λ (p : Problem). p.kind) (problem_in i))
kind_more before i =
    ap (option_map (λ (p : Problem). p.kind)) (problem_push before i) ∙ either (problem_of before) (problem_in i)

-- the kind that is known after one more item
kind_push : (before : List Line) (i : Line)
    → kind_known (before ++ option_to_list (item_spelled (Ok i))) ≡ option_or (kind_known before) (kind_in i)
kind_push before Item.Skip = ap kind_known (append-nil before) ∙ sym (or_none _)
kind_push before (Item.Graph kind nodes arcs) = kind_more before (Item.Graph kind nodes arcs)
kind_push before (Item.Aux kind count) = kind_more before (Item.Aux kind count)
kind_push before i = kind_more before i

-- the arc of one more item
arc_push : (n : ℕ) (i : Line)
    → without_lines (arc_line_read n (Ok i)) ≡ arcs_among (option_to_list (item_spelled (Ok i)))
arc_push n Item.Skip = refl
arc_push n (Item.MinArc src dst low cap cost) = refl
arc_push n (Item.MaxArc src dst cap) = refl
arc_push n (Item.SpArc src dst length) = refl
arc_push n i = refl

-- the reading of lines by themselves agrees with their items
pub record Agree (ls : List (List ℕ)) : Type 0 where
  pub kind : kind_after None 0 ls ≡ kind_known (items_of ls)
  pub arcs : without_lines (arc_lines_from None 0 ls) ≡ arcs_among (items_of ls)
  pub fine : fault_from None 0 ls ≡ None
  pub kinds : AllFit (kind_known (items_of ls)) (items_of ls)

step : (b : List (List ℕ)) (l : List ℕ) → Faults.fault_after b l ≡ None → Agree b → Agree (b ++ l ∷ [])
step b l h a =
    let r = reads_some b l h in
    let before = items_of b in
    let n = length b + 1 in
    let first = without_lines (arc_lines_from None 0 b) in
    let zero : 0 + length b ≡ length b = omega arith in
    let reads : read_by_itself (kind_after None 0 b) n l ≡ Ok r.item = rw a.kind r.reads in
    let items : items_of (b ++ l ∷ []) ≡ before ++ option_to_list (item_spelled (Ok r.item)) =
    items_push b l ∙ ap (λ x. before ++ option_to_list (item_spelled x)) r.words in
    record {
      kind =
          Lines.kind_append None 0 b (l ∷ []) ∙ ap (λ m. kind_after (kind_after None 0 b) m (l ∷ [])) zero
          ∙ ap (kind_then (kind_after None 0 b)) reads ∙ ap (λ k. option_or k (kind_in r.item)) a.kind
          ∙ sym (kind_push before r.item) ∙ sym (ap kind_known items);
      arcs =
          ap without_lines (Lines.arcs_append None 0 b (l ∷ []))
          ∙ map-append without_line (arc_lines_from None 0 b) _
          ∙ ap (λ m. first ++ without_lines (arc_lines_from (kind_after None 0 b) m (l ∷ []))) zero
          ∙ ap (λ x. first ++ without_lines x) (append-nil _ ∙ ap (arc_line_read n) reads)
          ∙ ap (λ x. x ++ without_lines (arc_line_read n (Ok r.item))) a.arcs
          ∙ ap (λ x. arcs_among before ++ x) (arc_push n r.item)
          ∙ sym (filter_map-append (arc_line_in 0) before _) ∙ sym (ap arcs_among items);
      fine =
          Lines.fault_append None 0 b (l ∷ [])
          ∙ ap (λ m. option_or (fault_from None 0 b) (fault_from (kind_after None 0 b) m (l ∷ []))) zero
          ∙ ap (λ x. option_or x (fault_from (kind_after None 0 b) (length b) (l ∷ []))) a.fine
          ∙ or_none _ ∙ ap (fault_read n) reads;
      kinds = rw (items, kind_push before r.item) (fit_push (kind_known before) before r.item a.kinds r.fits);
    }

pub agree : (ls : List (List ℕ)) → IsClean ls → Agree ls
agree ls clean = by_clean_lines Agree ls clean step (record { kind = refl; arcs = refl; fine = refl; kinds = tt })

-- an empty line has no arc line
none_read : (known : Option Kind) (n : ℕ) → arc_lines_from known n ([] ∷ []) ≡ []
none_read known n = elim (cases_Bool (is_too_long (n + 1))) [ inl e ↦ rw e | inr e ↦ rw e ]

last_any : (ls : List (List ℕ)) (o : List ℕ)
    → arc_lines_from None 0 (ls ++ o ∷ []) ≡ arc_lines_from None 0 (ls ++ if_any o)
last_any ls [] =
    Lines.arcs_append None 0 ls ([] ∷ [])
    ∙ ap (λ x. arc_lines_from None 0 ls ++ x) (none_read (kind_after None 0 ls) (0 + length ls)) ∙ append-nil _
    ∙ ap (arc_lines_from None 0) (sym (append-nil ls))
last_any ls (b ∷ bs) = refl

pub with_end : (t : List ℕ) → arc_lines (t ++ 10 ∷ []) ≡ arc_lines_from None 0 (lines t)
with_end t =
    ap (λ (p : Parts). arc_lines_from None 0 p.0) (parts_closed is_line_feed t 10 refl)
    ∙ last_any (parts is_line_feed t).0 (parts is_line_feed t).1
