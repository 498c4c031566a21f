-- Lemmas on the arcs of a graph as items of its text: each arc's line spells it, and it has no fault after the items
-- before it.
use Rattle.std.proofs.Common.{◌≡◌, ℕ, suc, ◌-◌, ◌<◌, ◌^◌, ℤ, pos, ◌≤ℤ◌, List, [], ◌∷◌, ◌++◌, length, true, false, not, ◌&&◌, ◌||◌, map, Option, Some, None, int_lt, refl, ◌∙◌, arith, append_assoc, length-append, inl, inr}
use Rattle.std.proofs.lemmas.Bool.{cases_Bool}
use Rattle.std.proofs.lemmas.Int.{ints}
use Rattle.std.proofs.lemmas.Bool.Decides.{nat_tests}
use Rattle.std.proofs.lemmas.List.Elements.{filter-append, filter_map-append}
use Rattle.dn_num.proofs.ShortestLaws.{decimal_reads}
use Rattle.dn_line.specs.declared.kind.Kind.{Kind}
use Rattle.dn_line.specs.declared.kind.Kind.TheVariants as Kinds
use Rattle.dn_line.specs.declared.line.Line.{Line}
use Rattle.dn_line.specs.declared.line.Line.TheVariants as Item
use Rattle.dn_line.specs.Words.{said}
use Rattle.dn_line.specs.State.Spelling.{Spells}
use Rattle.dn_line.specs.Faults.{first_fault}
use Rattle.dn_arc_theory.specs.Kinds.{ArcKind, lengths, capacities, costs}
use Rattle.dn_arc_theory.specs.State.Bundles.{IsKind}
use Rattle.dn_arc_theory.specs.declared.arc.LengthArc.{LengthArc}
use Rattle.dn_arc_theory.specs.declared.arc.CapArc.{CapArc}
use Rattle.dn_arc_theory.specs.declared.arc.CostArc.{CostArc}
use Rattle.dn_arc_theory.proofs.PartsLaws.{test_no}
use Rattle.dn_arc_theory.proofs.CostKindLaws.{cost_kind}
use Rattle.dn_arc_theory.proofs.LengthKindLaws.{length_kind}
use Rattle.dn_arc_theory.proofs.TotalKindLaws.{total_kind}
use Rattle.dn_arc_theory.specs.Pairs.{bundle, same_pair}
use Rattle.dn_instance.specs.Instances.{Graph}
use Rattle.dn_instance.specs.Validity.{Fits, IsNode, IsPlaced, IsValidGraph}
use Rattle.dn_instance.specs.Items.{counted, is_counted, arcs_of, length_arc_in, cap_arc_in, cost_arc_in, supply_in}
use Rattle.dn_instance.specs.TextFaults.{ids_in, is_stray, item_tests}
use Rattle.dn_line.specs.LineTable.{is_companion}
use Rattle.dn_instance.proofs.SumLaws.{passes, total_passes, cost_passes}
use Rattle.dn_canon.specs.Prints.{arc_row}
use Rattle.dn_canon.proofs.ItemLaws.{AllFollow, spells_by}
use Rattle.dn_canon.proofs.OrderLaws.{all_at_pair, at_head}
use Rattle.dn_canon.proofs.PartLaws.{Splits, all_at, all_after, fewer, each_follow, items_back, all_counted}

-- a node fits 64 bits if NODES does
pub node_fits : (nodes v : ℤ) → Fits nodes → IsNode nodes v → Fits v
node_fits (pos n) (pos m) h i = let le : m < suc n = omega (arith, ints) in grind (arith, nat_tests)
node_fits nodes v h i = absurd (omega (arith, ints))

-- an ID of at least 1 is above 0
pub above_zero : {v : ℤ} → pos 1 ≤ℤ v → int_lt (pos 0) v ≡ true
above_zero {v} h = grind (arith, ints)

-- a text with fewer counted lines than declared is not full
pub not_full : (c n : ℕ) → c < n → not (int_lt (pos c) (pos n)) ≡ false
not_full c n h = grind (arith, ints)

-- a node of a problem of this kind is in range
pub node_in_range : (k : Kind) {nodes v : ℤ} → IsNode nodes v
    → (int_lt (pos 0) v && (is_companion k || not (int_lt nodes v))) ≡ true
node_in_range k {nodes} {v} i =
    rw (above_zero i.some, test_no nodes v i.most) (elim (cases_Bool (is_companion k)) [ inl e ↦ rw e | inr e ↦ rw e ])

-- the item of an arc of this kind, with the laws that its text needs
pub record IsArcItem {Arc : Type 0} (kind : ArcKind Arc) (arc_in : Line → Option ((ℤ × ℤ) × Arc)) (k : Kind)
    (item : (ℤ × ℤ) × Arc → Line) : Type 0 where
  pub arc_is : (a : (ℤ × ℤ) × Arc) → arc_in (item a) ≡ Some a
  pub problem_none : (nodes count : ℤ) → arc_in (Item.Graph k nodes count) ≡ None
  pub counts : (a : (ℤ × ℤ) × Arc) → is_counted (item a) ≡ true
  pub ids_are : (a : (ℤ × ℤ) × Arc) → ids_in (item a) ≡ a.0.0 ∷ a.0.1 ∷ []
  pub spells : (nodes : ℤ) (a : (ℤ × ℤ) × Arc) → Fits nodes → IsPlaced kind nodes a
      → Spells (Some k) (map said (arc_row kind a)) (item a)
  pub own : (before : List Line) (a : (ℤ × ℤ) × Arc) → is_stray before (item a) ≡ false → kind.IsArc a.1
      → passes kind (arcs_of arc_in before) a ≡ false → first_fault (item_tests before (Some (item a))) ≡ None
  pub no_supply : (a : (ℤ × ℤ) × Arc) → supply_in (item a) ≡ None
  pub kind_laws : IsKind kind

-- the item of a `min` arc
abbrev pub min_item : (ℤ × ℤ) × CostArc → Line
min_item a = Item.MinArc a.0.0 a.0.1 a.1.low a.1.cap a.1.cost

abbrev pub max_item : (ℤ × ℤ) × CapArc → Line
max_item a = Item.MaxArc a.0.0 a.0.1 a.1.cap

abbrev pub sp_item : (ℤ × ℤ) × LengthArc → Line
sp_item a = Item.SpArc a.0.0 a.0.1 a.1.length

-- the laws of `min` items
pub min_items : IsArcItem costs cost_arc_in Kinds.Min min_item
min_items = record {
  arc_is = λ a. refl;
  problem_none = λ nodes count. refl;
  counts = λ a. refl;
  ids_are = λ a. refl;
  spells = λ nodes a f p.
      let cap : pos 0 ≤ℤ a.1.cap = omega (arith, ints, p.is_arc.some, p.is_arc.room) in
      spells_by refl (search (decimal_reads, node_fits nodes)) refl;
  own = λ before a r h p. rw (r, test_no a.1.cap a.1.low h.room, cost_passes (arcs_of cost_arc_in before) a ∙ p);
  no_supply = λ a. refl;
  kind_laws = cost_kind;
}

-- the laws of `max` items
pub max_items : IsArcItem capacities cap_arc_in Kinds.Max max_item
max_items = record {
  arc_is = λ a. refl;
  problem_none = λ nodes count. refl;
  counts = λ a. refl;
  ids_are = λ a. refl;
  spells = λ nodes a f p. spells_by refl (search (decimal_reads, node_fits nodes)) refl;
  own = λ before a r h p. rw (r, total_passes (arcs_of cap_arc_in before) a ∙ p);
  no_supply = λ a. refl;
  kind_laws = total_kind;
}

-- the laws of `sp` items
pub sp_items : IsArcItem lengths length_arc_in Kinds.Sp sp_item
sp_items = record {
  arc_is = λ a. refl;
  problem_none = λ nodes count. refl;
  counts = λ a. refl;
  ids_are = λ a. refl;
  spells = λ nodes a f p. spells_by refl (search (decimal_reads, node_fits nodes)) refl;
  own = λ before a r h p. rw r;
  no_supply = λ a. refl;
  kind_laws = length_kind;
}

-- the arcs of a pair in two lists, one after the other
pub bundle_append : {Arc : Type 0} (p : ℤ × ℤ) (xs ys : List ((ℤ × ℤ) × Arc))
    → bundle p (xs ++ ys) ≡ bundle p xs ++ bundle p ys
bundle_append p [] ys = refl
bundle_append p (x ∷ xs) ys =
    rw (bundle_append p xs ys) (elim (cases_Bool (same_pair p x.0)) [ inl e ↦ rw e | inr e ↦ rw e ])

module _ {Arc : Type 0} {kind : ArcKind Arc} {arc_in : Line → Option ((ℤ × ℤ) × Arc)} {k : Kind}
    {item : (ℤ × ℤ) × Arc → Line} (laws : IsArcItem kind arc_in k item) where
  -- the arcs of the items are the arcs
  pub arcs_back : (xs : List ((ℤ × ℤ) × Arc)) → arcs_of arc_in (map item xs) ≡ xs
  arcs_back = items_back arc_in item laws.arc_is

  -- items without arcs add no arcs
  pub no_arc_more : (xs : List Line) (ys : List ((ℤ × ℤ) × Arc)) → arcs_of arc_in xs ≡ []
      → arcs_of arc_in (xs ++ map item ys) ≡ ys
  no_arc_more xs ys e = rw (filter_map-append arc_in xs (map item ys), e) (arcs_back ys)

  -- items that are not counted do not change the count
  pub counted_more : (xs : List Line) (ys : List ((ℤ × ℤ) × Arc)) → counted xs ≡ 0
      → counted (xs ++ map item ys) ≡ length ys
  counted_more xs ys e =
      rw (filter-append is_counted xs (map item ys), length-append)
      (let c = all_counted item laws.counts ys in omega arith)

  -- the capacities of an arc and of the earlier arcs of its pair sum within the range
  sum_within : {d : List ((ℤ × ℤ) × Arc)} {a : (ℤ × ℤ) × Arc} (graph : Graph Arc) → IsValidGraph kind graph
      → Splits graph.arcs d a → passes kind d a ≡ false
  sum_within {d} {a} graph v s =
      let high = rw (s.is, bundle_append a.0 d (a ∷ s.rest), at_head a s.rest) at (v.capacities a.0) in
      let whole = laws.kind_laws.capacity_append (bundle a.0 d ++ a.1 ∷ []) (bundle a.0 s.rest) in
      let some = laws.kind_laws.capacity_some (bundle a.0 s.rest)
      (all_at_pair _ kind.IsArc (λ x p. p.is_arc) a.0 s.rest (all_after _ d (a ∷ s.rest) (rw s.is at v.placed)).1) in
      test_no (pos (2 ^ 63 - 1)) (kind.capacity (bundle a.0 d ++ a.1 ∷ []))
      (omega (arith, ints, rw append_assoc at whole))

  -- the items of the arcs follow the problem line and items that are neither arcs nor counted
  pub arcs_follow : (graph : Graph Arc) (ns : List Line) → IsValidGraph kind graph → arcs_of arc_in ns ≡ []
      → counted ns ≡ 0
      → AllFollow (Item.Graph k graph.nodes (pos (length graph.arcs)) ∷ ns) (map (arc_row kind) graph.arcs)
      (map item graph.arcs)
  arcs_follow graph ns v no_arc none =
      each_follow (arc_row kind) item (Item.Graph k graph.nodes (pos (length graph.arcs)) ∷ ns) graph.arcs (λ d a s.
      let placed = all_at (IsPlaced kind graph.nodes) s v.placed in
      let before = Item.Graph k graph.nodes (pos (length graph.arcs)) ∷ (ns ++ map item d) in
      record {
        spells = laws.spells graph.nodes a v.nodes_fit placed;
        order = rw (counted_more ns d none, not_full _ _ (fewer s));
        own =
            laws.own before a (rw (laws.ids_are a, node_in_range k placed.tail, node_in_range k placed.head))
            placed.is_arc
            (rw (laws.problem_none, no_arc_more ns d no_arc) (sum_within graph v s));
      })
