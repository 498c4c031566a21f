-- Lemmas on what the next line reads as, check by check, and on the item of a line that has no fault up to its fields.
use Rattle.std.proofs.Common.{◌≡◌, List, [], ◌∷◌, ◌++◌, true, false, cond, Option, Some, None, is_some, Ok, Err, refl, sym, ap, ◌∙◌, inl, inr, append_assoc}
use Rattle.std.proofs.lemmas.Bool.{cases_Bool, cond-false}
use Rattle.std.specs.Option.{option_or}
use Rattle.dn_line.specs.declared.line.Line.{Line}
use Rattle.dn_line.specs.declared.line.Line.TheVariants as Item
use Rattle.dn_line.specs.declared.kind.Kind.{Kind}
use Rattle.dn_line.specs.declared.kind.Kind.TheVariants.{Min, Max, Sp, Ss, P2p, Co}
use Rattle.dn_line.specs.declared.word.Word.{Word}
use Rattle.dn_line.specs.declared.code.Code.{Code}
use Rattle.dn_line.specs.declared.code.Code.TheVariants.{LateNode, TooManyLines}
use Rattle.dn_line.specs.Words.{is_skip, first}
use Rattle.dn_line.specs.Faults.{Test, first_fault, head_tests, field_tests, fields}
use Rattle.dn_line.specs.State.Spelling.{Slot, FitSlots, Spells, slots_of}
use Rattle.dn_line.specs.Reading.{unless, spelled, words_read}
use Rattle.dn_line.proofs.FaultLaws.{fault_append}
use Rattle.dn_line.proofs.SpellingLaws.{faultless_spells}
use Rattle.dn_instance.specs.Items.{kind_known, is_counted}
use Rattle.dn_instance.specs.TextFaults.{order_tests, line_tests, item_tests, item_spelled, is_counted_letter}
use Rattle.dn_instance.specs.State.ItemFaults.{is_late_node, is_surplus}
use Rattle.dn_instance.specs.State.RowHeads.{HasSigns}
use Rattle.dn_instance.specs.Texts.{with_next}
use Rattle.dn_instance.specs.State.TextsSoFar.{next_read, fault_next, MayFollow}
use Rattle.dn_instance.proofs.FirstFaults.{none_first}
use Rattle.dn_instance.proofs.CleanItems.{none_both, item_some}
use Rattle.dn_line.specs.declared.line.Line.TheVariants.{Skip}
use Rattle.dn_line.specs.declared.line.Head.{Head}
use Rattle.dn_line.specs.declared.line.Head.TheVariants as Heads
use Rattle.dn_line.specs.LineTable.{kind_named}
use Rattle.dn_line.specs.State.LineReads.{head_of, head_read, fields_read}

-- what a value or a fault shows of a first fault
pub unless_ok : {A : Type 0} (f : Option Code) (x y : A) → unless f x ≡ Ok y → (f ≡ None) × (x ≡ y)
unless_ok None x y h = let same : x ≡ y = cc in (refl, same)
unless_ok (Some c) x y h = cc

pub unless_err : {A : Type 0} (f : Option Code) (x : A) (c : Code) → unless f x ≡ Err c → f ≡ Some c
unless_err None x c h = cc
unless_err (Some d) x c h = let same : d ≡ c = cc in ap Some same

-- a line that is not skipped, and in whose head no fault is found, has the head that it names
pub head_agrees : (known : Option Kind) (ws : List Word) (head : Head) → is_skip ws ≡ false → head_read known ws ≡ Ok
    head → (first_fault (head_tests known ws) ≡ None) × (head ≡ head_of (first ws) (kind_named ws))
head_agrees known ws head e h =
    let a = unless_ok (first_fault (head_tests known ws)) (head_of (first ws) (kind_named ws)) head (rw e at h) in
    (a.0, sym a.1)

pub head_skips : (known : Option Kind) (ws : List Word) (head : Head) → is_skip ws ≡ true → head_read known ws ≡ Ok head
    → head ≡ Heads.Skip
head_skips known ws head e h = cc (rw e at h)

-- the fault that a head has because of the lines before it, unless the line is skipped
pub order_agrees : (known : Option Kind) (before : List Line) (ws : List Word) (head : Head) (fault : Option Code)
    → head_read known ws ≡ Ok head
    → (first_fault (head_tests known ws) ≡ None → head ≡ head_of (first ws) (kind_named ws)
    → fault ≡ first_fault (order_tests before ws)) → (head ≡ Heads.Skip → fault ≡ None)
    → fault ≡ cond (is_skip ws) None (first_fault (order_tests before ws))
order_agrees known before ws head fault h answer skip = elim (cases_Bool (is_skip ws)) [
  | inl e ↦ rw e (skip (head_skips known ws head e h))
  | inr e ↦ let listed = head_agrees known ws head e h in rw e (answer listed.0 listed.1)
]

-- there are slots, and the words fit them
abbrev FitSome : Option (List Slot) → List Word → Type 0
FitSome None ws = ⊥
FitSome (Some slots) ws = FitSlots slots ws

-- LOW, CAP, ARCS and K of an item that words spell are at least 0
signs : (i : Line) (ws : List Word) → FitSome (slots_of i) ws → HasSigns i
signs (Item.MinArc _ _ _ _ _) (w ∷ v ∷ u ∷ t ∷ s ∷ ws) f = (f.1.1.1.0.1, f.1.1.1.1.0.1)
signs (Item.MinArc _ _ _ _ _) _ f = absurd assumption
signs (Item.MaxArc _ _ _) (w ∷ v ∷ u ∷ t ∷ ws) f = f.1.1.1.0.1
signs (Item.MaxArc _ _ _) _ f = absurd assumption
signs (Item.Graph Min _ _) (w ∷ v ∷ u ∷ t ∷ ws) f = f.1.1.1.0.1
signs (Item.Graph Max _ _) (w ∷ v ∷ u ∷ t ∷ ws) f = f.1.1.1.0.1
signs (Item.Graph Sp _ _) (w ∷ v ∷ u ∷ t ∷ ws) f = f.1.1.1.0.1
signs (Item.Graph _ _ _) _ f = absurd assumption
signs (Item.Aux Ss _) (w ∷ v ∷ u ∷ t ∷ s ∷ ws) f = f.1.1.1.1.0.1
signs (Item.Aux P2p _) (w ∷ v ∷ u ∷ t ∷ s ∷ ws) f = f.1.1.1.1.0.1
signs (Item.Aux Co _) (w ∷ v ∷ u ∷ t ∷ s ∷ ws) f = f.1.1.1.1.0.1
signs (Item.Aux _ _) _ f = absurd assumption
signs _ ws f = tt

-- the line of a counted item has the letter of a counted line
letter : (i : Line) (ws : List Word) → FitSome (slots_of i) ws → is_counted i ≡ true
    → is_counted_letter (first ws) ≡ true
letter Item.Skip ws f h = cc
letter _ [] f h = absurd (first_of (assumption, cc))
letter _ (w ∷ ws) f h = cc

module _ (before : List Line) (ws : List Word) where
  abbrev known : Option Kind
  known = kind_known before

  abbrev later : List Test
  later = order_tests before ws ++ field_tests (fields known ws)

  parted : is_skip ws ≡ false → next_read before ws ≡ unless (option_or (first_fault (head_tests known ws))
      (option_or (first_fault (order_tests before ws)) (first_fault (field_tests (fields known ws)))))
      (spelled known ws)
  parted e =
      rw (
        e,
        fault_append (head_tests known ws) later,
        fault_append (order_tests before ws) (field_tests (fields known ws)),
      )

  -- a fault of the head is the fault of the line
  pub head_refused : (c : Code) → head_read known ws ≡ Err c → next_read before ws ≡ Err c
  head_refused c h = elim (cases_Bool (is_skip ws)) [
    | inl e ↦ cc (rw e at h)
    | inr e ↦
        let f = unless_err (first_fault (head_tests known ws)) (head_of (first ws) (kind_named ws)) c (rw e at h) in
        rw (parted e, f)
  ]

  -- a fault because of the lines before is the fault of the line
  pub order_refused : (head : Head) (c : Code) → head_read known ws ≡ Ok head
      → cond (is_skip ws) None (first_fault (order_tests before ws)) ≡ Some c → next_read before ws ≡ Err c
  order_refused head c h o = elim (cases_Bool (is_skip ws)) [
    | inl e ↦ cc (rw e at o)
    | inr e ↦ let f = rw e at o in rw (parted e, (head_agrees known ws head e h).0, f)
  ]

  -- without such faults, the line reads as its fields do
  pub then_fields : (head : Head) → head_read known ws ≡ Ok head
      → cond (is_skip ws) None (first_fault (order_tests before ws)) ≡ None → fields_read known ws ≡ next_read before ws
  then_fields head h o = elim (cases_Bool (is_skip ws)) [
    | inl e ↦ rw e
    | inr e ↦ let f = rw e at o in rw (parted e, (head_agrees known ws head e h).0, f, e)
  ]

  module _ (e : is_skip ws ≡ false) where
    -- the head, the order and the fields have no fault
    record Faultless : Type 0 where
      head : first_fault (head_tests known ws) ≡ None
      order : first_fault (order_tests before ws) ≡ None
      field : first_fault (field_tests (fields known ws)) ≡ None

    faultless : first_fault (head_tests known ws ++ later) ≡ None → Faultless
    faultless h =
        let a = none_both (head_tests known ws) later h in
        let b = none_both (order_tests before ws) (field_tests (fields known ws)) a.1 in
        record { head = a.0; order = b.0; field = b.1 }

    spells : Faultless → Spells known ws (spelled known ws)
    spells f =
        faultless_spells known ws
        (rw (fault_append (head_tests known ws) (field_tests (fields known ws)), f.head) f.field)

    follows : Faultless → MayFollow before (spelled known ws)
    follows f =
        let s = spells f in
        let fit : FitSome (slots_of (spelled known ws)) ws = rw s.slots_are s.fit in
        let late = none_first (is_late_node before ws) LateNode _ f.order in
        let surplus = none_first (is_surplus before ws) TooManyLines _ late.1 in
        record {
          kind_is = s.kind_is;
          spelled = ap is_some s.slots_are;
          signs = signs (spelled known ws) ws fit;
          room = λ c. rw (letter (spelled known ws) ws fit c) at surplus.0;
        }

    -- if no fault is found, the line reads as the item that it spells
    taken : (i : Line) → next_read before ws ≡ Ok i
        → (first_fault (head_tests known ws ++ later) ≡ None) × (spelled known ws ≡ i)
    taken i h = unless_ok (first_fault (head_tests known ws ++ later)) (spelled known ws) i (rw e at h)

    parts : (items : Option Line) → first_fault
        (head_tests known ws ++ (order_tests before ws ++ (field_tests (fields known ws) ++ item_tests before items)))
        ≡ option_or (first_fault (head_tests known ws ++ later)) (first_fault (item_tests before items))
    parts items =
        ap first_fault (sym (append_assoc (head_tests known ws) later (item_tests before items)))
        ∙ fault_append (head_tests known ws ++ later) (item_tests before items)

    -- the item may follow the items before it, and has the first fault of the line
    pub record Follows (i : Line) : Type 0 where
      pub may : MayFollow before i
      pub reads : item_spelled (words_read known ws) ≡ Some i
      pub faults : first_fault (line_tests before ws) ≡ first_fault (item_tests before (Some i))

    pub follows_as : (i : Line) → next_read before ws ≡ Ok i → Follows i
    follows_as i h =
        let t = taken i h in
        let f = faultless t.0 in
        let own = fault_append (head_tests known ws) (field_tests (fields known ws)) in
        let s = rw t.1 at (spells f) in
        let reads : item_spelled (words_read known ws) ≡ Some i =
        rw (e, own, f.head, f.field, t.1) (item_some i s.slots s.slots_are) in
        record { may = rw t.1 at (follows f); reads = reads; faults = rw (reads, parts (Some i), t.0) }

    -- a fault up to the fields is the first fault of the line
    pub refused : (c : Code) → next_read before ws ≡ Err c → first_fault (line_tests before ws) ≡ Some c
    refused c h =
        let f = unless_err (first_fault (head_tests known ws ++ later)) (spelled known ws) c (rw e at h) in
        rw (parts (item_spelled (words_read known ws)), f)

-- a line that reads as `Skip` is skipped
pub skip_only : (before : List Line) (ws : List Word) → next_read before ws ≡ Ok Item.Skip → is_skip ws ≡ true
skip_only before ws h =
    elim (cases_Bool (is_skip ws)) [ inl e ↦ e | inr e ↦ cc (follows_as before ws e Item.Skip h).may.spelled ]

-- a skipped line has no fault
pub skip_faultless : (before : List Line) (ws : List Word) → is_skip ws ≡ true → fault_next before ws ≡ None
skip_faultless before ws e = rw e

-- an item may follow the items before it, has the first fault of its line, and is what the line adds
pub record IsNextItem (before : List Line) (ws : List Word) (i : Line) : Type 0 where
  pub may : MayFollow before i
  pub fault : fault_next before ws ≡ first_fault (item_tests before (Some i))
  pub adds : with_next before ws ≡ before ++ i ∷ []

pub next_item : (before : List Line) (ws : List Word) (i : Line) → is_skip ws ≡ false → next_read before ws ≡ Ok i
    → IsNextItem before ws i
next_item before ws i e h =
    let f = follows_as before ws e i h in
    record { may = f.may; fault = cond-false (is_skip ws) None _ e ∙ f.faults; adds = rw f.reads }

-- a fault up to the fields is the first fault of the line
pub line_refused : (before : List Line) (ws : List Word) (c : Code) → next_read before ws ≡ Err c
    → fault_next before ws ≡ Some c
line_refused before ws c h = elim (cases_Bool (is_skip ws)) [
  | inl e ↦ cc (rw e at h)
  | inr e ↦ cond-false (is_skip ws) None _ e ∙ refused before ws e c h
]
