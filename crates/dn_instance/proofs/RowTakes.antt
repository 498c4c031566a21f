-- Lemmas on a text that takes the item of a row.
use Rattle.std.proofs.Common.{◌≡◌, ◌≤◌, ◌+◌, ◌%◌, FitsSigned, to_z, of_z, suc, not, option_map, rules, ◌-ℤ◌, ◌≤ℤ◌, ℕ, ℤ, pos, List, [], ◌∷◌, ◌++◌, false, true, int_lt, Option, Some, None, Result, Ok, Err, OnOk, w64, refl, sym, ap, ◌∙◌, subst, arith, inl, inr}
use Rattle.std.proofs.Math.Bool.{and-false}
use Rattle.std.specs.List.{list_any}
use Rattle.std.proofs.lemmas.Bool.{cases_Bool}
use Rattle.std.proofs.lemmas.Bool.Decides.{nat_tests}
use Rattle.std.proofs.lemmas.Int.{ints}
use Rattle.std.proofs.lemmas.Result.{on_ok_weaker}
use Rattle.dn_line.specs.Faults.{first_fault}
use Rattle.dn_line.specs.LineTable.{is_companion, kind_named}
use Rattle.dn_line.specs.Words.{first}
use Rattle.dn_line.specs.State.LineReads.{head_of}
use Rattle.dn_line.specs.State.RowItems.{item_of_row, letter_named}
use Rattle.dn_line.specs.State.Spelling.{kind_before}
use Rattle.dn_line.specs.declared.kind.Kind.{Kind}
use Rattle.dn_line.specs.declared.kind.Kind.TheVariants.{Min, Max, Sp}
use Rattle.dn_line.specs.declared.line.Head.{Head}
use Rattle.dn_line.specs.declared.line.Head.TheVariants as Heads
use Rattle.dn_line.specs.declared.line.Line.{Line}
use Rattle.dn_line.specs.declared.line.Line.TheVariants as Item
use Rattle.dn_line.specs.declared.row.Row.{Row}
use Rattle.dn_line.specs.declared.word.Keyword.{Keyword}
use Rattle.dn_line.specs.declared.word.Keyword.TheVariants as Key
use Rattle.dn_line.specs.declared.word.Word.{Word}
use Rattle.dn_instance.specs.Items.{Problem, is_counted, problem_in}
use Rattle.dn_instance.specs.TextFaults.{is_arc, is_counted_letter, is_node_letter, order_tests}
use Rattle.dn_instance.specs.State.Bodies.{Awaits, TakesRow, TookRow}
use Rattle.dn_instance.specs.State.RowHeads.{HasSigns, IsRowHead, counted_head, counted_line}
use Rattle.dn_instance.specs.State.TextParts.{AnyBody, BodyHolds, DescriptorsHold, body_kind}
use Rattle.dn_instance.specs.State.TextsSoFar.{AwaitsRow, ComeInTime, HasRead, TakesRowOf, problem_as, text_kind}
use Rattle.dn_instance.specs.declared.node_descriptors.NodeDescriptors.{NodeDescriptors}
use Rattle.dn_instance.specs.declared.refusal.ItemFault.{ItemFault}
use Rattle.dn_instance.specs.declared.text_so_far.TextSoFar.{TextSoFar}
use Rattle.dn_instance.proofs.DescriptorLaws.{row_no_descriptor}
use Rattle.dn_instance.proofs.ItemSteps.{body_read, counted_no, counted_yes, full_is, has_due, kind_agrees, kind_of_item, descriptor_read, problem_agrees, problem_all}

-- no counted line has the head of node lines
pub not_node : (kind : Kind) → Heads.Node ≡ counted_head kind → ⊥
not_node Min e = cc
not_node _ e = cc

-- the item of a counted row is counted, and is an arc in a graph
pub one_counted : (kind : Kind) (r : Row) → is_counted (counted_line kind r) ≡ true
one_counted Min r = refl
one_counted _ r = refl

one_arc : (kind : Kind) (r : Row) → is_companion kind ≡ false → is_arc (counted_line kind r) ≡ true
one_arc Min r c = refl
one_arc Max r c = refl
one_arc Sp r c = refl
one_arc _ r c = cc

own_kind : {k l : Kind} → Some k ≡ Some l → k ≡ l
own_kind e = cc

awaits_as : (t : TextSoFar) (kind : Kind) (before : List Line) (i : Line) → HasRead t before → text_kind t ≡ Some kind
    → HasSigns i → Awaits kind t.nodes before i
awaits_as t kind before i at is signs = record {
  problem = problem_as t kind;
  problem_is = problem_agrees t before kind at is;
  kind_is = refl;
  nodes_are = refl;
  signs = signs;
}

-- a counted row that the body takes is taken by the text
pub counted_took : (t u : TextSoFar) (b b' : AnyBody) (kind : Kind) (row : Row) (r : Result (Unit {0}) ItemFault)
    → t.body ≡ Some b → text_kind t ≡ Some kind → body_kind b' ≡ body_kind b
    → TakesRow (body_kind b) t.nodes (BodyHolds b) (BodyHolds b') (counted_line (body_kind b) row) r
    → OnOk r (pos 1 ≤ℤ t.due → u ≡ record t { due = t.due -ℤ pos 1; body = Some b' })
    → TakesRowOf t u (counted_head kind) row r
counted_took t u b b' kind row r body is same takes on = rw is (λ before a.
    let own : body_kind b ≡ kind = own_kind (rw body at is) in
    let i = counted_line kind row in
    let took : TookRow before (BodyHolds b') i r =
    subst (λ k. TakesRow k t.nodes (BodyHolds b) (BodyHolds b') (counted_line k row) r) own takes before
    (awaits_as t kind before i a.read is a.may.signs) (rw body at a.read.body_holds) in
    let some = has_due t before i kind a.read is a.may.room (one_counted kind row) in
    record {
      answer = took.answer;
      holds = read r on took.holds (λ held. body_read t b' before i kind a.read is (same ∙ own)
          (one_counted kind row) (one_arc kind row) (row_no_descriptor kind row) some held) some;
    })
  where
    read : {P : Type 0} {v : TextSoFar} {items : List Line} (r : Result (Unit {0}) ItemFault)
        → OnOk r (pos 1 ≤ℤ t.due → u ≡ v) → OnOk r P → (P → HasRead v items) → pos 1 ≤ℤ t.due
        → OnOk r (HasRead u items)
    read {items = items} (Ok x) on held go some = subst (λ w. HasRead w items) (sym (on some)) (go held)
    read (Err e) on held go some = tt

-- a counted row that is not taken changes nothing
pub same_read : (t : TextSoFar) (b b' : AnyBody) (before : List Line) → t.body ≡ Some b → body_kind b' ≡ body_kind b
    → (BodyHolds b before → BodyHolds b' before) → HasRead t before → HasRead (record t { body = Some b' }) before
same_read t b b' before body same keep at = record {
  problem_is = rw same (rw body at at.problem_is);
  count_fits = at.count_fits;
  due_is = at.due_is;
  due_some = at.due_some;
  arcs_are = λ graph. at.arcs_are (rw (body, ← same) graph);
  descriptors_hold = at.descriptors_hold;
  body_holds = keep (rw body at at.body_holds);
}

-- one less than a positive number does not wrap
pub one_less : (d : ℤ) → pos 1 ≤ℤ d → FitsSigned w64 d
    → to_z w64 ((of_z w64 d + 18446744073709551615) % 18446744073709551616) ≡ (d -ℤ pos 1)
one_less d some fits = omega (arith, ints)

-- the item of a line that is no problem line is no problem
row_no_problem : (head : Head) (known : Option Kind) (row : Row) → ((kind : Kind) → head ≡ Heads.Problem kind → ⊥)
    → problem_in (item_of_row head known row) ≡ None
row_no_problem (Heads.Problem k) known row n = absurd (n k refl)
row_no_problem _ (Some Min) row n = refl
row_no_problem _ _ row n = refl

-- a line that spells an item of its kind, and is no problem line and no node line, is counted
counted_head_is : (head : Head) (kind : Kind) (row : Row)
    → kind_before (item_of_row head (Some kind) row) ≡ Some kind → ((k : Kind) → head ≡ Heads.Problem k → ⊥)
    → (head ≡ Heads.Node → ⊥) → head ≡ counted_head kind
counted_head_is (Heads.Problem k) kind row h p n = absurd (p k refl)
counted_head_is Heads.Node kind row h p n = absurd (n refl)
counted_head_is _ Min row h p n = first_of (cc, search rules)
counted_head_is _ _ row h p n = first_of (cc, search rules)

-- the row of a line that is no problem line and no node line is taken as one of a counted line
pub of_counted : (t u : TextSoFar) (head : Head) (row : Row) (r : Result (Unit {0}) ItemFault)
    → ((kind : Kind) → head ≡ Heads.Problem kind → ⊥) → (head ≡ Heads.Node → ⊥)
    → ((kind : Kind) → text_kind t ≡ Some kind → TakesRowOf t u (counted_head kind) row r) → TakesRowOf t u head row r
of_counted t u head row r p n takes before a =
    let own = kind_of_item _ (row_no_problem head (text_kind t) row p) a.may.spelled in
    let is : text_kind t ≡ Some own.0 = sym (kind_agrees t before a.read) ∙ a.may.kind_is ∙ own.1 in
    let head_is =
    counted_head_is head own.0 row (ap (λ o. kind_before (item_of_row head o row)) (sym is) ∙ own.1) p n in
    subst (λ h. AwaitsRow t before (item_of_row h (text_kind t) row)
    → TookRow before (HasRead u) (item_of_row h (text_kind t) row) r) (sym head_is) (takes own.0 is before) a

-- a node line that the descriptors take is taken by the text
node_read : (t : TextSoFar) (h : NodeDescriptors) (kind : Kind) (row : Row) (r : Result (Unit {0}) ItemFault) (i : Line)
    → text_kind t ≡ Some kind → item_of_row Heads.Node (Some kind) row ≡ i → HasSigns i → is_counted i ≡ false
    → is_arc i ≡ false → TakesRow kind t.nodes (DescriptorsHold t.descriptors) (DescriptorsHold h) i r
    → TakesRowOf t (record t { descriptors = h }) Heads.Node row r
node_read t h kind row r i is item signs free no_arc takes = rw (is, item) (λ before a.
    let took = takes before (awaits_as t kind before i a.read is signs) a.read.descriptors_hold in
    record {
      answer = took.answer;
      holds = on_ok_weaker r (λ held. descriptor_read t h before i kind a.read is free no_arc held) took.holds;
    })

pub terminal_read : (t : TextSoFar) (h : NodeDescriptors) (row : Row) (r : Result (Unit {0}) ItemFault)
    → text_kind t ≡ Some Max
    → TakesRow Max t.nodes (DescriptorsHold t.descriptors) (DescriptorsHold h)
    (Item.Terminal row.first (letter_named row.second)) r
    → TakesRowOf t (record t { descriptors = h }) Heads.Node row r
terminal_read t h row r is takes = node_read t h Max row r _ is refl tt refl refl takes

pub supply_read : (t : TextSoFar) (h : NodeDescriptors) (row : Row) (r : Result (Unit {0}) ItemFault)
    → (text_kind t ≡ Some Max → ⊥)
    → TakesRow Min t.nodes (DescriptorsHold t.descriptors) (DescriptorsHold h) (Item.Supply row.first row.second) r
    → TakesRowOf t (record t { descriptors = h }) Heads.Node row r
supply_read t h row r other takes = by (text_kind t) refl
  where
    by : (o : Option Kind) → text_kind t ≡ o → TakesRowOf t (record t { descriptors = h }) Heads.Node row r
    by (Some Min) e = node_read t h Min row r _ e refl tt refl refl takes
    by (Some Max) e = absurd (other e)
    by _ e = rw e (λ before a. cc a.may.spelled)

-- a line with the letter of a node line has its head, and a line with the letter of a counted line has not
node_head : (key : Option Keyword) (named : Option Kind) → is_node_letter key ≡ true → head_of key named ≡ Heads.Node
node_head (Some Key.N) named h = refl
node_head _ named h = cc

not_node_head : (key : Option Keyword) (named : Option Kind) → is_counted_letter key ≡ true
    → head_of key named ≡ Heads.Node → ⊥
not_node_head (Some Key.A) named h e = cc
not_node_head _ named h e = cc

-- if more lines come in time, so do fewer
pub fewer_come : (t : TextSoFar) (head : Head) (n q : ℕ) → n ≤ q → ComeInTime t head q → ComeInTime t head n
fewer_come t head n q few c = record { early = c.early; room = λ counts. omega (arith, ints, few, c.room counts) }

module _ (t : TextSoFar) (items : List Line) (kind : Kind) (head : Head) (m : ℕ) (at : HasRead t items)
    (is : text_kind t ≡ Some kind) (row : IsRowHead kind head) (times : ComeInTime t head (suc m)) where
  -- the next line of a row has no fault because of the lines before it
  pub row_in_time : (ws : List Word) → head ≡ head_of (first ws) (kind_named ws)
      → first_fault (order_tests items ws) ≡ None
  row_in_time ws of = elim row [
    | inl e ↦
        let none : list_any is_arc items ≡ false =
        at.arcs_are (rw (is, e.1)) ∙ not_late t.due t.count (times.early e.0) in
        let other : is_counted_letter (first ws) ≡ false = elim (cases_Bool (is_counted_letter (first ws))) [
          | inl y ↦ absurd (not_node_head (first ws) (kind_named ws) y (sym of ∙ e.0))
          | inr n ↦ n
        ] in
        rw (none, other, and-false)
    | inr e ↦
        let other : is_node_letter (first ws) ≡ false = elim (cases_Bool (is_node_letter (first ws))) [
          | inl y ↦ absurd (not_node kind (sym (node_head (first ws) (kind_named ws) y) ∙ sym of ∙ e))
          | inr n ↦ n
        ] in
        let room = full_is t items at ∙ not_full t.due m (times.room (λ n. not_node kind (sym n ∙ e))) in
        rw (other, problem_agrees t items kind at is, room, and-false)
  ]
    where
      not_late : (d c : ℤ) → c ≤ℤ d → int_lt d c ≡ false
      not_late d c h = grind (arith, ints)

      not_full : (d : ℤ) (m : ℕ) → pos (suc m) ≤ℤ d → not (int_lt (pos 0) d) ≡ false
      not_full d m h = grind (arith, ints, nat_tests)

  -- after it, the other lines come in time
  pub come_after : (u : TextSoFar) (r : Row) → HasRead u (items ++ item_of_row head (Some kind) r ∷ [])
      → (text_kind u ≡ Some kind) × ComeInTime u head m
  come_after u r next =
      let i = item_of_row head (Some kind) r in
      let same = same_problem (text_kind u) (sym next.problem_is
      ∙ problem_all items (i ∷ []) (problem_as t kind) (problem_agrees t items kind at is)) in (
        same.0,
        record {
          early = λ e. elim row [
            | inl n ↦
                omega (
                  arith,
                  ints,
                  times.early e,
                  same.1,
                  at.due_is,
                  next.due_is,
                  ap pos (counted_no items i (rw (n.0, n.1))),
                )
            | inr n ↦ absurd (not_node kind (sym e ∙ n))
          ];
          room = λ other. elim row [
            | inl n ↦ absurd (other n.0)
            | inr n ↦
                omega (
                  arith,
                  ints,
                  times.room other,
                  same.1,
                  at.due_is,
                  next.due_is,
                  ap pos (counted_yes items i (rw n (one_counted kind r))),
                )
          ];
        },
      )
    where
      same_problem : (o : Option Kind) → option_map (problem_as u) o ≡ Some (problem_as t kind)
          → (o ≡ Some kind) × (u.count ≡ t.count)
      same_problem None h = cc
      same_problem (Some k) h = let p : problem_as u k ≡ problem_as t kind = cc in
          (ap (λ (p : Problem). Some p.kind) p, ap (λ (p : Problem). p.count) p)
