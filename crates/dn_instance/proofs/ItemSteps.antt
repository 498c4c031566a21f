-- Lemmas on the items that have been read and one more item.
use Rattle.std.proofs.Common.{◌≡◌, ◌<◌, ℕ, ℤ, pos, ◌<ℤ◌, List, [], ◌∷◌, ◌++◌, filter, true, false, not, ◌≤ℤ◌, ◌+ℤ◌, ◌-ℤ◌, int_lt, Option, Some, None, is_some, IsSome, refl, sym, ap, ◌∙◌, arith, ◌^◌, suc, add-one, append-nil, length-append, option_map}
use Rattle.std.proofs.lemmas.List.Elements.{filter-append}
use Rattle.std.proofs.lemmas.Bool.{not-false, not-true}
use Rattle.std.proofs.lemmas.Int.{ints}
use Rattle.std.proofs.lemmas.Bool.Decides.{nat_tests}
use Rattle.std.proofs.lemmas.List.Folds.{list_any-append}
use Rattle.std.proofs.Math.Bool.{or-false, or-true}
use Rattle.std.specs.List.{list_any}
use Rattle.std.specs.Option.{option_or}
use Rattle.dn_line.specs.declared.line.Line.{Line}
use Rattle.dn_line.specs.declared.line.Line.TheVariants as Item
use Rattle.dn_line.specs.declared.kind.Kind.{Kind}
use Rattle.dn_line.specs.declared.kind.Kind.TheVariants as Kinds
use Rattle.dn_line.specs.State.Spelling.{kind_before, slots_of}
use Rattle.dn_instance.specs.Items.{Problem, problem_of, problem_in, kind_known, counted, is_counted}
use Rattle.dn_instance.specs.TextFaults.{is_arc}
use Rattle.dn_line.specs.LineTable.{is_companion}
use Rattle.dn_instance.specs.State.TextParts.{AnyBody, BodyHolds, DescriptorsHold, body_kind}
use Rattle.dn_instance.specs.State.RowHeads.{HasRoomFor}
use Rattle.dn_instance.specs.State.TextsSoFar.{AwaitsRow, HasRead, HoldsBody, problem_as, text_kind}
use Rattle.dn_instance.specs.declared.node_descriptors.NodeDescriptors.{NodeDescriptors}
use Rattle.dn_instance.specs.declared.text_so_far.TextSoFar.{TextSoFar}
use Rattle.dn_instance.proofs.DescriptorLaws.{IsNoDescriptor, body_kept, descriptors_kept, holds_kept, no_item}

-- the body is of the declared kind
pub kind_agrees : (t : TextSoFar) (items : List Line) → HasRead t items → kind_known items ≡ text_kind t
kind_agrees t items at = rw at.problem_is (kind_as (text_kind t))
  where
    kind_as : (o : Option Kind) → option_map (λ (p : Problem). p.kind) (option_map (problem_as t) o) ≡ o
    kind_as None = refl
    kind_as (Some kind) = refl

-- the items declare the problem of the draft's kind
pub problem_agrees : (t : TextSoFar) (items : List Line) (kind : Kind) → HasRead t items → text_kind t ≡ Some kind
    → problem_of items ≡ Some (problem_as t kind)
problem_agrees t items kind at is = rw is at at.problem_is

-- the items that have been read do not depend on the number of lines
pub with_lines : (t : TextSoFar) (n : ℕ) (items : List Line) → HasRead t items → HasRead (record t { closed = n }) items
with_lines t n items at = record {
  problem_is = at.problem_is;
  count_fits = at.count_fits;
  due_is = at.due_is;
  due_some = at.due_some;
  arcs_are = at.arcs_are;
  descriptors_hold = at.descriptors_hold;
  body_holds = at.body_holds;
}

-- fewer than 2^63 counted lines have been read
pub few_read : (t : TextSoFar) (items : List Line) → HasRead t items → counted items < 2 ^ 63
few_read t items at = omega (arith, ints, at.due_is, at.due_some, at.count_fits)

-- there are as many counted lines as declared exactly if none is still to come
pub full_is : (t : TextSoFar) (items : List Line) → HasRead t items
    → not (int_lt (pos (counted items)) t.count) ≡ not (int_lt (pos 0) t.due)
full_is t items at = rw (← at.due_is) (by (counted items) t.due)
  where
    by : (k : ℕ) (d : ℤ) → not (int_lt (pos k) (pos k +ℤ d)) ≡ not (int_lt (pos 0) d)
    by k d = grind (arith, ints, nat_tests)

pub no_problem : (i : Line) → ((kind : Kind) (nodes arcs : ℤ) → i ≡ Item.Graph kind nodes arcs → ⊥)
    → ((kind : Kind) (count : ℤ) → i ≡ Item.Aux kind count → ⊥) → problem_in i ≡ None
no_problem (Item.Graph kind nodes arcs) g a = absurd (g kind nodes arcs refl)
no_problem (Item.Aux kind count) g a = absurd (a kind count refl)
no_problem _ g a = refl

-- an item other than a problem line belongs to a kind
pub kind_of_item : (i : Line) → problem_in i ≡ None → IsSome (slots_of i) → (kind : Kind) × (kind_before i ≡ Some kind)
kind_of_item Item.Skip h s = cc
kind_of_item (Item.Graph _ _ _) h s = cc
kind_of_item (Item.Aux _ _) h s = cc
kind_of_item (Item.Supply _ _) h s = (Kinds.Min, refl)
kind_of_item (Item.Terminal _ _) h s = (Kinds.Max, refl)
kind_of_item (Item.MinArc _ _ _ _ _) h s = (Kinds.Min, refl)
kind_of_item (Item.MaxArc _ _ _) h s = (Kinds.Max, refl)
kind_of_item (Item.SpArc _ _ _) h s = (Kinds.Sp, refl)
kind_of_item (Item.Source _) h s = (Kinds.Ss, refl)
kind_of_item (Item.Query _ _) h s = (Kinds.P2p, refl)
kind_of_item (Item.Point _ _ _) h s = (Kinds.Co, refl)

or_kept : (a b c : Option Problem) (p : Problem) → option_or a b ≡ Some p → (b ≡ Some p → c ≡ Some p)
    → option_or a c ≡ Some p
or_kept None b c p h k = k h
or_kept (Some x) b c p h k = h

-- the first problem line stays the first with more items
pub problem_all : (before items : List Line) (p : Problem) → problem_of before ≡ Some p
    → problem_of (before ++ items) ≡ Some p
problem_all [] items p h = cc
problem_all (x ∷ before) items p h =
    or_kept (problem_in x) (problem_of before) (problem_of (before ++ items)) p h (problem_all before items p)

-- a counted item adds 1 to the count, and any other item adds nothing
pub counted_yes : (items : List Line) (i : Line) → is_counted i ≡ true → counted (items ++ i ∷ []) ≡ suc (counted items)
counted_yes items i h =
    rw (filter-append is_counted items (i ∷ []), h) (length-append (filter is_counted items) (i ∷ []) ∙ add-one _)

pub counted_no : (items : List Line) (i : Line) → is_counted i ≡ false → counted (items ++ i ∷ []) ≡ counted items
counted_no items i h = rw (filter-append is_counted items (i ∷ []), h, append-nil)

-- if a counted item may follow, a counted line is still to come
pub has_due : (t : TextSoFar) (items : List Line) (i : Line) (kind : Kind) → HasRead t items → text_kind t ≡ Some kind
    → HasRoomFor items i → is_counted i ≡ true → pos 1 ≤ℤ t.due
has_due t items i kind at is room y =
    above t.due (not-false _ (sym (full_is t items at) ∙ rw (problem_agrees t items kind at is) at (room y)))
  where
    above : (d : ℤ) → int_lt (pos 0) d ≡ true → pos 1 ≤ℤ d
    above d h = grind (arith, ints, nat_tests)

-- an `n` line has been read
pub descriptor_read : (t : TextSoFar) (h : NodeDescriptors) (before : List Line) (i : Line) (kind : Kind)
    → HasRead t before → text_kind t ≡ Some kind → is_counted i ≡ false → is_arc i ≡ false
    → DescriptorsHold h (before ++ i ∷ []) → HasRead (record t { descriptors = h }) (before ++ i ∷ [])
descriptor_read t h before i kind at is free no_arc held = record {
  problem_is = rw is (problem_all before (i ∷ []) _ (problem_agrees t before kind at is));
  count_fits = at.count_fits;
  due_is = rw (counted_no before i free) at.due_is;
  due_some = at.due_some;
  arcs_are = λ graph. rw (list_any-append is_arc before (i ∷ []), no_arc, or-false) (at.arcs_are graph);
  descriptors_hold = held;
  body_holds = holds_kept t.body kind is before i free at.body_holds;
}

-- a counted line has been read
pub body_read : (t : TextSoFar) (b : AnyBody) (before : List Line) (i : Line) (kind : Kind) → HasRead t before
    → text_kind t ≡ Some kind → body_kind b ≡ kind → is_counted i ≡ true
    → (is_companion kind ≡ false → is_arc i ≡ true) → IsNoDescriptor i → pos 1 ≤ℤ t.due → BodyHolds b (before ++ i ∷ [])
    → HasRead (record t { due = t.due -ℤ pos 1; body = Some b }) (before ++ i ∷ [])
body_read t b before i kind at is kept one arc no_descriptor some held = record {
  problem_is = rw kept (problem_all before (i ∷ []) _ (problem_agrees t before kind at is));
  count_fits = at.count_fits;
  due_is = rw (counted_yes before i one) (omega (arith, ints, at.due_is));
  due_some = omega (arith, ints);
  arcs_are = λ graph.
      rw (list_any-append is_arc before (i ∷ []), arc (not-true _ (rw kept at graph)), or-true)
      (late (counted before) t.due t.count at.due_is);
  descriptors_hold = descriptors_kept t.descriptors before i no_descriptor at.descriptors_hold;
  body_holds = held;
}
  where
    late : (k : ℕ) (d c : ℤ) → pos k +ℤ d ≡ c → true ≡ int_lt (d -ℤ pos 1) c
    late k d c e = grind (arith, ints, nat_tests)

-- a problem line belongs to no kind, is not an arc, and is not counted
heads : (i : Line) → IsSome (problem_in i) → (kind_before i ≡ None) × (list_any is_arc (i ∷ []) ≡ false)
    × (counted (i ∷ []) ≡ 0)
heads (Item.Graph k n c) s = (refl, refl, refl)
heads (Item.Aux k c) s = (refl, refl, refl)
heads _ s = cc

-- before the problem line, there are no items
none_made : (o : Option AnyBody) (items : List Line) → option_map body_kind o ≡ None → HoldsBody o items → items ≡ []
none_made None items e h = h
none_made (Some b) items e h = cc

none_before : (t : TextSoFar) (before : List Line) (i : Line) (p : Problem) → AwaitsRow t before i
    → problem_in i ≡ Some p → before ≡ []
none_before t before i p a is =
    none_made t.body before
    (sym (kind_agrees t before a.read) ∙ a.may.kind_is ∙ (heads i (ap is_some is)).0) a.read.body_holds

-- the problem line has been read
pub begun : (t u : TextSoFar) (b : AnyBody) (before : List Line) (i : Line) (p : Problem) → AwaitsRow t before i
    → problem_in i ≡ Some p → u.body ≡ Some b → body_kind b ≡ p.kind → p ≡ problem_as u p.kind → u.count <ℤ pos (2 ^ 63)
    → u.due ≡ u.count → pos 0 ≤ℤ u.count → u.descriptors ≡ t.descriptors → BodyHolds b [] → HasRead u (before ++ i ∷ [])
begun t u b before i p a is body kind same_problem fits due some same holds =
    rw first (record {
      problem_is = rw (is, body, kind, ← same_problem);
      count_fits = fits;
      due_is = rw (head.2, due) (omega (arith, ints));
      due_some = rw due some;
      arcs_are = λ graph. rw (head.1, due) (below u.count);
      descriptors_hold = rw same (descriptors_kept t.descriptors [] i other.1 (rw first at a.read.descriptors_hold));
      body_holds = rw body (body_kept b [] i other.0 holds);
    })
  where
    first : before ≡ []
    first = none_before t before i p a is

    head : (kind_before i ≡ None) × (list_any is_arc (i ∷ []) ≡ false) × (counted (i ∷ []) ≡ 0)
    head = heads i (ap is_some is)

    other : (is_counted i ≡ false) × IsNoDescriptor i
    other = no_item i (ap is_some is)

    below : (c : ℤ) → false ≡ int_lt c c
    below c = grind (arith, ints)
