-- Lemmas on taking one row into a body, and on a body of one kind as a body of any kind.
use Rattle.std.proofs.Common.{◌≡◌, ℤ, List, [], ◌∷◌, ◌++◌, Bool, true, not, int_lt, ◌&&◌, IsTrue, ◌↔◌, Option, Some, Result, OnOk, refl, sym, ap, ◌∙◌, subst, ◌^◌, pos, arith, inl, inr, ◌<◌, filter_map, length-append, ℕ, length}
use Rattle.std.proofs.lemmas.Result.{on_ok_weaker}
use Rattle.dn_line.specs.Faults.{first_fault}
use Rattle.dn_line.specs.declared.code.Code.{Code}
use Rattle.dn_line.specs.declared.code.Code.TheVariants.{NodeOutOfRange, LowAboveCap, RepeatedNode}
use Rattle.dn_line.specs.declared.kind.Kind.{Kind}
use Rattle.dn_line.specs.declared.kind.Kind.TheVariants as Kinds
use Rattle.dn_line.specs.declared.line.Line.{Line}
use Rattle.dn_line.specs.declared.line.Line.TheVariants as Item
use Rattle.dn_line.specs.declared.row.Row.{Row}
use Rattle.dn_arc_theory.specs.State.Sizes.{ArcSizes, cap_sizes, cost_sizes, length_sizes}
use Rattle.dn_arc_theory.specs.Kinds.{lengths, capacities, costs, ArcKind}
use Rattle.dn_arc_theory.specs.State.Bundles.{BundleFacts, meant}
use Rattle.dn_nodes.specs.State.Nodes.{Gains, Nodes, is_known}
use Rattle.dn_table.specs.State.Tables.{AreArcs, GraphNeedsMore, TableLists, Stays}
use Rattle.dn_instance.specs.Items.{arcs_of, length_arc_in, cap_arc_in, cost_arc_in, Problem, problem_of, point_in, by_key}
use Rattle.dn_instance.specs.TextFaults.{has_point, item_tests}
use Rattle.dn_line.specs.LineTable.{is_companion}
use Rattle.dn_instance.specs.State.ArcTakes.{AnswersArc, GainsArc, NeedsForArc}
use Rattle.dn_instance.specs.State.Bodies.{Awaits, MapHolds, TableHolds, TakesRow, TookRow}
use Rattle.dn_instance.specs.State.ItemFaults.{AnswersFault, arc_fault, id_fault, in_graph, pair_fault, point_fault}
use Rattle.dn_instance.specs.State.RowHeads.{counted_line}
use Rattle.dn_instance.specs.declared.refusal.ItemFault.{ItemFault}
use Rattle.dn_instance.proofs.ValidLaws.{grown}
use Rattle.std.proofs.Math.Bool.{and-true, not-not}
use Rattle.std.proofs.lemmas.Int.{ints}
use Rattle.std.specs.List.{AllByRecursion}
use Rattle.dn_arc_theory.proofs.LengthsLaws.{least_of}
use Rattle.dn_instance.proofs.SumLaws.{total_append, total_passes, cost_passes}
use Rattle.dn_arc_theory.proofs.TotalKindLaws.{total_some}
use Rattle.dn_bundle_trait.proofs.BundleLaws.{all_end}
use Rattle.std.proofs.lemmas.Bool.Decides.{nat_tests}
use Rattle.dn_arc_theory.specs.Canonical.{IsCostArc}
use Rattle.dn_arc_theory.proofs.SplitsLaws.{SameAbove, same}
use Rattle.dn_arc_theory.proofs.CurvesLaws.{above_meaning, cost_cap_same}
use Rattle.dn_arc_theory.proofs.AddsLaws.{above_none}
use Rattle.dn_arc_theory.proofs.CostKindLaws.{cost_kind}
use Rattle.dn_arc_theory.specs.declared.arc.CostArc.{CostArc}
use Rattle.dn_table.specs.GraphEntries.{graph_entries}
use Rattle.dn_instance.specs.EntryCount.{entries_as, entries_by}
use Rattle.dn_instance.specs.Readers.{NeedsMemory}
use Rattle.dn_instance.proofs.FirstFaults.{none_first}
use Rattle.dn_instance.proofs.MapLaws.{by_key_push, one_more_key, found_by_key, points_named}
use Rattle.dn_instance.proofs.ItemSteps.{problem_all}
use Rattle.std.proofs.lemmas.Bool.{not-false}
use Rattle.dn_instance.proofs.DescriptorLaws.{map_gains, on_ok_from}

-- the first fault of an item is that of its arc, where `is` says whether a problem may have the arc
pub record SaysFault {Arc : Type 0} (kind : ArcKind Arc) (nodes : ℤ) (arcs : List ((ℤ × ℤ) × Arc)) (a : (ℤ × ℤ) × Arc)
    (found : Option Code) : Type 0 where
  pub is : Bool
  pub decides : IsTrue is ↔ kind.IsArc a.1
  pub fault : found ≡ arc_fault kind nodes arcs is a

-- the row's item is this arc, between the nodes of the first two numbers, and it has the faults of the arc and needs
-- memory where the arc does
pub record IsArcOfRow {Arc : Type 0} (text : Kind) (kind : ArcKind Arc) (sizes : ArcSizes Arc)
    (arc_in : Line → Option ((ℤ × ℤ) × Arc)) (row : Row) (arc : Arc) : Type 0 where
  pub in_line : arc_in (counted_line text row) ≡ Some ((row.first, row.second), arc)
  pub faults : (nodes : ℤ) (before : List Line) → Awaits text nodes before (counted_line text row)
      → SaysFault kind nodes (arcs_of arc_in before) ((row.first, row.second), arc)
      (first_fault (item_tests before (Some (counted_line text row))))
  pub needs : (nodes : ℤ) (before : List Line) → Awaits text nodes before (counted_line text row)
      → GraphNeedsMore sizes (arcs_of arc_in before) ((row.first, row.second), arc)
      → NeedsMemory before (counted_line text row)
  pub stays : Stays kind

no_arcs_more : {A : Type 0} (xs : List A) (a : A) → xs ++ a ∷ [] ≡ [] → ⊥
no_arcs_more [] a e = cc
no_arcs_more (x ∷ xs) a e = cc

-- `sp` arcs that mean something also mean something with one more arc
length_stays : Stays lengths
length_stays xs a are is same = elim (least_of (xs ++ a ∷ [])) [
  | inl e ↦ absurd (no_arcs_more xs a e)
  | inr w ↦ absurd (same.there w.0 w.1).has
]

-- `max` arcs that mean something also mean something with one more arc
cap_stays : Stays capacities
cap_stays xs a are is same = record { is = omega (arith, ints, same.is, total_append xs a, total_some xs are, is.some) }

-- arcs whose CAPs sum to 0 mean the same as no arcs
none_carried : (xs : List CostArc) → AllByRecursion IsCostArc xs → costs.capacity xs ≡ pos 0 → SameAbove xs []
none_carried [] are e = above_meaning.same_refl []
none_carried (a ∷ xs) are e =
    let some = are.0.some in
    let room = are.0.room in
    let rest = cost_kind.capacity_some xs are.1 in
    let low : a.low ≡ pos 0 = omega (arith, ints) in
    above_meaning.same_trans (a ∷ xs) xs []
    (subst (λ l. SameAbove (record { low = l; cap = a.cap; cost = a.cost } ∷ xs) xs) (sym low)
    (above_none a.cost a.cap xs (omega (arith, ints)))) (none_carried xs are.1 (omega (arith, ints)))

-- `min` arcs that mean something also mean something with one more arc
cost_stays : Stays costs
cost_stays xs a are is nothing =
    let all = cost_cap_same (xs ++ a ∷ []) [] (all_end IsCostArc xs a are is) tt nothing in
    same xs [] (none_carried xs are (omega
    (arith, ints, all, cost_kind.capacity_append xs (a ∷ []), cost_kind.capacity_some xs are, is.some, is.room)))

-- items that make more entries of their kind make more entries
entries_more : (kind : Kind) (nodes : ℤ) (before : List Line) (i : Line) → Awaits kind nodes before i
    → entries_as kind before < entries_as kind (before ++ i ∷ []) → NeedsMemory before i
entries_more kind nodes before i a more =
    inl (rw (problem_all before (i ∷ []) a.problem a.problem_is, a.problem_is, a.kind_is) more)

-- an item of a list goes to its end
module _ {X : Type 0} (kind : Kind) (item_in : Line → Option X) where
  pub list_took : (nodes : ℤ) (list list' : List X) (row : Row) (x : X) (f : Option Code)
      (r : Result (Unit {0}) ItemFault) (before : List Line) → item_in (counted_line kind row) ≡ Some x
      → ((p : Problem) → problem_of before ≡ Some p → p.kind ≡ kind
      → first_fault (item_tests before (Some (counted_line kind row))) ≡ f)
      → ((items : List Line) → entries_as kind items ≡ length (filter_map item_in items)) → AnswersFault r f
      → OnOk r (list' ≡ list ++ x ∷ [])
      → Awaits kind nodes before (counted_line kind row) → list ≡ filter_map item_in before
      → TookRow before (λ items. list' ≡ filter_map item_in items) (counted_line kind row) r
  list_took nodes list list' row x f r before is faults entries ans ok a was =
      let i = counted_line kind row in
      let more = grown item_in before i x is in
      record {
        answer = record {
          fault = rw (faults a.problem a.problem_is a.kind_is) ans;
          memory = λ out. entries_more kind nodes before i a
              (rw (entries before, entries (before ++ i ∷ []), more)
              (omega (arith, length-append (filter_map item_in before) (x ∷ []))));
        };
        holds = on_ok_weaker r (λ e. rw (more, ← was) e) ok;
      }

-- the fault of a line with one ID, and of a line with two
pub id_faults : (before : List Line) (id : ℤ) (p : Problem) → problem_of before ≡ Some p → p.kind ≡ Kinds.Ss
    → first_fault (item_tests before (Some (Item.Source id))) ≡ id_fault id
id_faults before id p h k = rw (h, ap is_companion k, and-true, and-true)

pub pair_faults : (before : List Line) (q : ℤ × ℤ) (p : Problem) → problem_of before ≡ Some p
    → p.kind ≡ Kinds.P2p → first_fault (item_tests before (Some (Item.Query q.0 q.1))) ≡ pair_fault q
pair_faults before q p h k = simp (h, ap is_companion k, and-true)

-- memory runs out only at a point of a new ID
pub points_took : (nodes : ℤ) (points points' : Nodes (ℤ × ℤ)) (row : Row) (r : Result (Unit {0}) ItemFault)
    (before : List Line) → AnswersFault r (point_fault (is_known points row.first) row.first)
    → OnOk r (Gains points row.first (Some (row.second, row.third)) points')
    → Awaits Kinds.Co nodes before (counted_line Kinds.Co row) → MapHolds point_in has_point points before
    → TookRow before (MapHolds point_in has_point points') (counted_line Kinds.Co row) r
points_took nodes points points' row r before ans ok a was =
    let id = row.first in
    let i = counted_line Kinds.Co row in
    let es = filter_map point_in before in
    let known = was.known_are id in
    record {
      answer = record {
        fault = rw (a.problem_is, ap is_companion a.kind_is, and-true, and-true, ← known) ans;
        memory = λ out.
            let one = none_first (not (int_lt (pos 0) id)) NodeOutOfRange _ (rw out at ans) in
            let once = (none_first (is_known points id) RepeatedNode _ one.1).0 in
            let new =
            one_more_key id (row.second, row.third) (by_key es)
            (found_by_key id es ∙ points_named id before ∙ sym known ∙ once) in
            entries_more Kinds.Co nodes before i a
            (rw (grown point_in before i (id, (row.second, row.third)) refl, by_key_push) (omega (arith, new)));
      };
      holds =
          on_ok_weaker r (λ gains.
          map_gains point_in has_point before i points points' id (Some (row.second, row.third)) refl (λ q. refl) gains
          was) ok;
    }

module _ {B Arc : Type 0} (text : Kind) (arc_in : Line → Option ((ℤ × ℤ) × Arc)) (b : BundleFacts B Arc) where
  -- an arc of a row that a table takes
  pub arc_took : (nodes : ℤ) (t t' : List ((ℤ × ℤ) × B)) (row : Row) (arc : Arc) (r : Result (Unit {0}) ItemFault)
      → IsArcOfRow text b.kind b.sizes arc_in row arc → AnswersArc b nodes t ((row.first, row.second), arc) r
      → GainsArc b t t' ((row.first, row.second), arc) r → NeedsForArc b t ((row.first, row.second), arc) r
      → TakesRow text nodes (TableHolds b.kind arc_in (meant b) t) (TableHolds b.kind arc_in (meant b) t')
      (counted_line text row) r
  arc_took nodes t t' row arc r w ans gains needs before a was =
      let arcs = arcs_of arc_in before in
      let says = w.faults nodes before a in
      let placed : (ℤ × ℤ) × Arc = ((row.first, row.second), arc) in
      let found = ans arcs says.is was.lists_them was.are_arcs says.decides in
      record {
        answer = record {
          fault = rw says.fault found;
          memory = λ e. w.needs nodes before a (needs arcs was.lists_them was.are_arcs e);
        };
        holds =
            on_ok_from r (arc_fault b.kind nodes arcs says.is placed) found (λ f lists.
            let one = none_first (not (in_graph nodes row.first && in_graph nodes row.second)) NodeOutOfRange _ f in
            let is = not-false says.is (none_first (not says.is) LowAboveCap _ one.1).0 in
            let more = grown arc_in before (counted_line text row) placed w.in_line in
            record {
              lists_them = rw more lists;
              are_arcs = rw more (all_end (λ x. b.kind.IsArc x.1) arcs placed was.are_arcs (says.decides.0 is));
            }) (gains arcs w.stays was.lists_them was.are_arcs);
      }

-- the arcs that rows spell
pub length_row : (row : Row)
    → IsArcOfRow Kinds.Sp lengths length_sizes length_arc_in row (record { length = row.third })
length_row row = record {
  in_line = refl;
  faults = λ nodes before a. record {
    is = true;
    decides = (λ x. tt, λ x. refl);
    fault = rw (a.problem_is, a.kind_is, a.nodes_are, and-true);
  };
  needs = λ nodes before a more. elim more [
    | inl m ↦
        entries_more Kinds.Sp nodes before (counted_line Kinds.Sp row) a
        (rw (grown length_arc_in before (counted_line Kinds.Sp row) _ refl) m)
    | inr m ↦ absurd m
  ];
  stays = length_stays;
}

pub cap_row : (row : Row) → IsArcOfRow Kinds.Max capacities cap_sizes cap_arc_in row (record { cap = row.third })
cap_row row = record {
  in_line = refl;
  faults = λ nodes before a.
      let sum = total_passes (arcs_of cap_arc_in before) ((row.first, row.second), record { cap = row.third }) in
      record {
        is = true;
        decides = (λ x. record { some = a.signs }, λ x. refl);
        fault = rw (a.problem_is, a.kind_is, a.nodes_are, and-true, sum);
      };
  needs = λ nodes before a more. elim more [
    | inl m ↦
        entries_more Kinds.Max nodes before (counted_line Kinds.Max row) a
        (rw (grown cap_arc_in before (counted_line Kinds.Max row) _ refl) m)
    | inr m ↦ absurd m
  ];
  stays = cap_stays;
}

pub cost_row : (row : Row)
    → IsArcOfRow Kinds.Min costs cost_sizes cost_arc_in row
    (record { low = row.third; cap = row.fourth; cost = row.fifth })
cost_row row =
    let arc : CostArc = record { low = row.third; cap = row.fourth; cost = row.fifth } in
    let above = int_lt row.fourth row.third in
    record {
      in_line = refl;
      faults = λ nodes before a.
          let passes = cost_passes (arcs_of cost_arc_in before) ((row.first, row.second), arc) in
          record {
            is = not above;
            decides = (
              λ h. record { some = a.signs.0; room = grind (arith, ints, nat_tests, h) },
              λ is. grind (arith, ints, nat_tests, is.room),
            );
            fault = rw (a.problem_is, a.kind_is, a.nodes_are, and-true, not-not above, passes);
          };
      needs = λ nodes before a more. elim more [
        | inl m ↦
            entries_more Kinds.Min nodes before (counted_line Kinds.Min row) a
            (rw (grown cost_arc_in before (counted_line Kinds.Min row) _ refl) m)
        | inr m ↦ inr m
      ];
      stays = cost_stays;
    }

-- the entries of a table are those of the arcs of the items
pub table_counted : {B Arc : Type 0} (text : Kind) (kind : ArcKind Arc) (entries : List Arc → ℕ)
    (arc_in : Line → Option ((ℤ × ℤ) × Arc)) (lists : B → List Arc) (table : List ((ℤ × ℤ) × B)) (n : ℕ)
    → ((items : List Line) → entries_by (Some text) items ≡ graph_entries entries (arcs_of arc_in items))
    → ((arcs : List ((ℤ × ℤ) × Arc)) → TableLists kind lists table arcs → AreArcs kind arcs
    → graph_entries entries arcs < 2 ^ 64 → n ≡ graph_entries entries arcs) → (items : List Line)
    → TableHolds kind arc_in lists table items → entries_by (Some text) items < 2 ^ 64
    → n ≡ entries_by (Some text) items
table_counted text kind entries arc_in lists table n same counts items held few =
    counts _ held.lists_them held.are_arcs (subst (λ k. k < 2 ^ 64) (same items) few) ∙ sym (same items)
