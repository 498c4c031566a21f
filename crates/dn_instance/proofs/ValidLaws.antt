-- Lemmas that what a text reads as is valid.
use Rattle.std.proofs.Common.{◌≡◌, ℕ, ℤ, pos, ◌≤ℤ◌, List, [], ◌∷◌, ◌++◌, Bool, true, false, cond, not, ◌||◌, map, Option, Some, None, is_some, option_and_then, Ok, Err, int_lt, refl, sym, ap, ◌∙◌, append-nil, arith, filter_map, inl, inr, int_eq}
use Rattle.dn_arc_theory.specs.declared.arc.CostArc.{CostArc}
use Rattle.std.proofs.lemmas.Bool.{cases_Bool, and_parts, not-false}
use Rattle.std.proofs.lemmas.Cmp.{int_eq_equiv}
use Rattle.std.proofs.lemmas.Int.{ints}
use Rattle.std.specs.Option.{option_or}
use Rattle.std.specs.List.{AllByRecursion, list_all}
use Rattle.std.proofs.lemmas.List.Elements.{filter_map-append}
use Rattle.dn_num.specs.Number.{number_read, fits, is_number, number_value}
use Rattle.dn_line.specs.declared.kind.Kind.{Kind}
use Rattle.dn_line.specs.declared.kind.Kind.TheVariants as Kinds
use Rattle.dn_line.specs.declared.kind.Letter.{Letter}
use Rattle.dn_line.specs.declared.kind.Letter.TheVariants.{S, T}
use Rattle.dn_line.specs.declared.line.Line.{Line}
use Rattle.dn_line.specs.declared.line.Line.TheVariants as Item
use Rattle.dn_line.specs.Pieces.{lines}
use Rattle.dn_line.specs.Words.{words, said, said_words}
use Rattle.dn_line.specs.State.Spelling.{Slot, Is, Number, Natural, slots_of, kind_before, FitSlots, Spells}
use Rattle.dn_arc_theory.specs.Kinds.{ArcKind, costs, capacities, lengths}
use Rattle.dn_arc_theory.specs.declared.arc.CapArc.{CapArc}
use Rattle.dn_arc_theory.specs.Pairs.{bundle, same_pair}
use Rattle.dn_instance.specs.Instances.{Graph, Instance, MaxFlow}
use Rattle.dn_instance.specs.Validity.{Fits, IsNode, IsId, IsPlaced, IsValidGraph, IsSupply, IsPoint, AreSupplies, AreTerminals, ArePoints, IsValid}
use Rattle.dn_instance.specs.Items.{Problem, problem_in, problem_of, kind_known, arcs_of, length_arc_in, cap_arc_in, cost_arc_in, by_key, supply_in, supplies_of, terminal_in, terminal_of, source_in, query_in, point_in, graph_of, max_flow, instance_as}
use Rattle.dn_instance.specs.TextFaults.{is_in_range, ids_in, other_letter}
use Rattle.dn_instance.specs.State.ItemFaults.{is_id}
use Rattle.dn_line.specs.LineTable.{is_companion}
use Rattle.dn_instance.specs.Texts.{items_of, IsClean, Reads}
use Rattle.std.specs.Ordering.{int_cmp}
use Rattle.std.proofs.lemmas.Cmp.{int_cmp_total}
use Rattle.dn_arc_theory.proofs.PairLaws.{pair_is, bundle_push}
use Rattle.dn_instance.proofs.SumLaws.{passes, total_passes, cost_passes}
use Rattle.dn_instance.proofs.CleanItems.{IsNext, by_items, problem_push, or_none, or_assoc}
use Rattle.dn_instance.proofs.MapLaws.{each_put, ascending_put, by_key_push, no_keys}
use Rattle.dn_table.proofs.GrownLaws.{none_is}
use Rattle.dn_bundle_trait.proofs.BundleLaws.{all_end}

-- the number of a slot fits 64 signed bits
abbrev SlotFits : Slot → Type 0
SlotFits (Is k) = Unit {0}
SlotFits (Number n) = Fits n
SlotFits (Natural n) = Fits n × (pos 0 ≤ℤ n)

taken : {F : Type 0} (x y : Bool) (v n : ℤ) (e f : F) → cond x (cond y (Ok v) (Err e)) (Err f) ≡ Ok n
    → (y ≡ true) × (v ≡ n)
taken true true v n e f h = let same : v ≡ n = cc in (refl, same)
taken _ _ v n e f h = cc

read_fits : (b : List ℕ) (n : ℤ) → number_read b ≡ Ok n → Fits n
read_fits b n h = let r = taken (is_number b) (fits (number_value b)) (number_value b) n _ _ h in rw r.1 at r.0

slots_fit : (slots : List Slot) (ws : List (List ℕ)) → FitSlots slots (map said ws) → AllByRecursion SlotFits slots
slots_fit [] ws f = tt
slots_fit (s ∷ slots) [] f = absurd f
slots_fit (Is k ∷ slots) (w ∷ ws) f = (tt, slots_fit slots ws f.1)
slots_fit (Number n ∷ slots) (w ∷ ws) f = (read_fits w n f.0, slots_fit slots ws f.1)
slots_fit (Natural n ∷ slots) (w ∷ ws) f = ((read_fits w n f.0.0, f.0.1), slots_fit slots ws f.1)

abbrev pub OnSlots : Option (List Slot) → Type 0
OnSlots None = ⊥
OnSlots (Some slots) = AllByRecursion SlotFits slots

-- the numbers of an item that a line spells fit 64 signed bits
item_fits : (known : Option Kind) (l : List ℕ) (i : Line) → Spells known (said_words l) i → OnSlots (slots_of i)
item_fits known l i s = rw s.slots_are (slots_fit s.slots (words l) s.fit)

each_of : {X : Type 0} (f : X → Bool) (P : X → Type 0) → ((x : X) → f x ≡ true → P x) → (xs : List X)
    → list_all f xs ≡ true → AllByRecursion P xs
each_of f P go [] h = tt
each_of f P go (x ∷ xs) h = let b = and_parts (f x) (list_all f xs) h in (go x b.0, each_of f P go xs b.1)

-- the nodes that an item of a graph problem names are nodes of the graph
nodes_there : (p : Problem) (i : Line) → is_companion p.kind ≡ false → list_all (is_in_range (Some p)) (ids_in i) ≡ true
    → AllByRecursion (IsNode p.nodes) (ids_in i)
nodes_there p i c =
    each_of (is_in_range (Some p)) (IsNode p.nodes) (λ id h.
    let both = and_parts (int_lt (pos 0) id) (not (int_lt p.nodes id)) (rw c at h) in
    record { some = grind (arith, ints, both.0); most = grind (arith, ints, both.1) })
    (ids_in i)

-- the IDs that an item of a companion names are IDs if they fit 64 signed bits
ids_there : (p : Problem) (i : Line) → list_all (is_in_range (Some p)) (ids_in i) ≡ true
    → AllByRecursion (λ id. Fits id → IsId id) (ids_in i)
ids_there p i =
    each_of (is_in_range (Some p)) (λ id. Fits id → IsId id) (λ id h f.
    let both = and_parts (int_lt (pos 0) id) (is_companion p.kind || not (int_lt p.nodes id)) h in
    record { some = grind (arith, ints, both.0); fits = f })
    (ids_in i)

-- one more item adds nothing to a list, or adds what it gives
pub kept : {X : Type 0} (f : Line → Option X) (before : List Line) (i : Line) → f i ≡ None
    → filter_map f (before ++ i ∷ []) ≡ filter_map f before
kept f before i e = rw (filter_map-append f before (i ∷ []), e) (append-nil (filter_map f before))

pub grown : {X : Type 0} (f : Line → Option X) (before : List Line) (i : Line) (x : X) → f i ≡ Some x
    → filter_map f (before ++ i ∷ []) ≡ filter_map f before ++ x ∷ []
grown f before i x e = rw (filter_map-append f before (i ∷ []), e)

module _ {Arc : Type 0} (kind : ArcKind Arc) (arc_in : Line → Option ((ℤ × ℤ) × Arc)) (nodes : ℤ) (before : List Line)
    (i : Line) (v : IsValidGraph kind (graph_of arc_in nodes before)) where
  -- a valid graph is valid with one more arc, if the CAPs of its pair do not sum to too much
  graph_grown : (a : (ℤ × ℤ) × Arc) → arc_in i ≡ Some a → IsPlaced kind nodes a
      → passes kind (arcs_of arc_in before) a ≡ false → IsValidGraph kind (graph_of arc_in nodes (before ++ i ∷ []))
  graph_grown a e placed sum =
      let arcs = arcs_of arc_in before in
      rw (grown arc_in before i a e) (record {
        some_nodes = v.some_nodes;
        nodes_fit = v.nodes_fit;
        placed = all_end (IsPlaced kind nodes) arcs a v.placed placed;
        capacities = λ p. elim (cases_Bool (same_pair p a.0)) [
          | inl t ↦ rw (bundle_push p arcs a, t, pair_is p a.0 t) (grind (arith, ints, sum))
          | inr t ↦ rw (bundle_push p arcs a, t, append-nil (bundle p arcs)) (v.capacities p)
        ];
      })

  graph_kept : arc_in i ≡ None → IsValidGraph kind (graph_of arc_in nodes (before ++ i ∷ []))
  graph_kept e = rw (kept arc_in before i e) v

-- the terminals that are named so far are valid
abbrev AreEnds : ℤ → Option ℤ → Option ℤ → Type 0
AreEnds nodes None None = Unit {0}
AreEnds nodes (Some a) None = IsNode nodes a
AreEnds nodes None (Some b) = IsNode nodes b
AreEnds nodes (Some a) (Some b) = AreTerminals nodes a b

-- what the items so far make in a problem of this kind is valid
abbrev SoundAs : Kind → ℤ → List Line → Type 0
SoundAs Kinds.Min nodes items = IsValidGraph costs (graph_of cost_arc_in nodes items)
    × AreSupplies nodes (supplies_of items)
SoundAs Kinds.Max nodes items = IsValidGraph capacities (graph_of cap_arc_in nodes items)
    × AreEnds nodes (terminal_of S items) (terminal_of T items)
SoundAs Kinds.Sp nodes items = IsValidGraph lengths (graph_of length_arc_in nodes items)
SoundAs Kinds.Ss nodes items = AllByRecursion IsId (filter_map source_in items)
SoundAs Kinds.P2p nodes items = AllByRecursion (λ (q : ℤ × ℤ). IsId q.0 × IsId q.1) (filter_map query_in items)
SoundAs Kinds.Co nodes items = ArePoints (by_key (filter_map point_in items))

-- what holds of the kind, NODES and the items of a problem, or that there are no items
abbrev pub ForProblem : (Kind → ℤ → List Line → Type 0) → Option Problem → List Line → Type 0
ForProblem As None items = items ≡ []
ForProblem As (Some p) items = As p.kind p.nodes items

-- what holds after the problem line, and also with each next item, holds of the items of a text without a fault
module _ (As : Kind → ℤ → List Line → Type 0)
    (begin : (i : Line) → OnSlots (slots_of i) → None ≡ kind_before i → ForProblem As (problem_in i) (i ∷ []))
    (next : (p : Problem) (k : Kind) (before : List Line) (i : Line) → p.kind ≡ k → Some k ≡ kind_before i
    → OnSlots (slots_of i) → list_all (is_in_range (Some p)) (ids_in i) ≡ true → IsNext before i
    → As k p.nodes before → As k p.nodes (before ++ i ∷ [])) where
  grow : (o : Option Problem) (before : List Line) (i : Line) → problem_of before ≡ o → IsNext before i
      → ForProblem As o before → ForProblem As (option_or o (problem_in i)) (before ++ i ∷ [])
  grow None before i h n none =
      rw none (begin i (item_fits (kind_known before) n.line i n.spells) (rw h at n.spells.kind_is))
  grow (Some p) before i h n s =
      next p p.kind before i refl (rw h at n.spells.kind_is) (item_fits (kind_known before) n.line i n.spells)
      (not-false _ (rw h at n.in_range)) n s

  pub by_problem : (ls : List (List ℕ)) → IsClean ls → ForProblem As (problem_of (items_of ls)) (items_of ls)
  by_problem ls clean =
      by_items (λ items. ForProblem As (problem_of items) items)
      (λ before i s n. rw (problem_push before i) (grow (problem_of before) before i refl n s)) refl ls clean

none_graph : {Arc : Type 0} (kind : ArcKind Arc) (nodes : ℤ) → kind.capacity [] ≡ pos 0 → Fits nodes × (pos 0 ≤ℤ nodes)
    → IsValidGraph kind (record { nodes = nodes; arcs = [] })
none_graph kind nodes none n =
    record { some_nodes = n.1; nodes_fit = n.0; placed = tt; capacities = λ p. rw none (omega (arith, ints)) }

-- what a problem line alone makes is valid
first_item : (i : Line) → OnSlots (slots_of i) → None ≡ kind_before i → ForProblem SoundAs (problem_in i) (i ∷ [])
first_item (Item.Graph Kinds.Min nodes arcs) s e =
    (none_graph costs nodes refl s.1.1.0, record { map = no_keys int_cmp; each = tt })
first_item (Item.Graph Kinds.Max nodes arcs) s e = (none_graph capacities nodes refl s.1.1.0, tt)
first_item (Item.Graph Kinds.Sp nodes arcs) s e = none_graph lengths nodes refl s.1.1.0
first_item (Item.Aux Kinds.Ss count) s e = tt
first_item (Item.Aux Kinds.P2p count) s e = tt
first_item (Item.Aux Kinds.Co count) s e = record { map = no_keys int_cmp; each = tt }
first_item _ s e = absurd (first_of (assumption, cc))

-- valid flows are valid with the flow of one more node line
supplies_grown : (nodes : ℤ) (before : List Line) (id flow : ℤ) → IsNode nodes id → Fits flow
    → AreSupplies nodes (supplies_of before) → AreSupplies nodes (supplies_of (before ++ Item.Supply id flow ∷ []))
supplies_grown nodes before id flow node fit s = elim (cases_Bool (int_eq flow (pos 0))) [
  | inl e ↦ rw (kept supply_in before (Item.Supply id flow) (rw e)) s
  | inr e ↦
      let some : flow ≡ pos 0 → ⊥ = λ z. cc (rw z at e) in
      rw (grown supply_in before (Item.Supply id flow) (id, flow) (rw e), by_key_push) (record {
        map = ascending_put int_cmp id flow int_cmp_total (supplies_of before) s.map;
        each =
            each_put id flow (IsSupply nodes) (supplies_of before)
            (record { node = node; some = some; fits = fit }) s.each;
      })
]

ids_differ : (a b : ℤ) → int_eq a b ≡ false → a ≡ b → ⊥
ids_differ a b h e = cc (rw (e, int_eq_equiv.refl b) at h)

-- a terminal that is not the other one is valid with it
source_named : (nodes id : ℤ) (t : Option ℤ) → IsNode nodes id → AreEnds nodes None t → is_id id t ≡ false
    → AreEnds nodes (Some id) t
source_named nodes id None node ends h = node
source_named nodes id (Some b) node ends h =
    record { source_is = node; sink_is = ends; differ = λ e. ids_differ b id h (sym e) }

sink_named : (nodes id : ℤ) (s : Option ℤ) → IsNode nodes id → AreEnds nodes s None → is_id id s ≡ false
    → AreEnds nodes s (Some id)
sink_named nodes id None node ends h = node
sink_named nodes id (Some a) node ends h = record { source_is = ends; sink_is = node; differ = ids_differ a id h }

-- the first terminal of a letter among more items
pub terminal_more : (l : Letter) (before items : List Line)
    → terminal_of l (before ++ items) ≡ option_or (terminal_of l before) (terminal_of l items)
terminal_more l [] items = refl
terminal_more l (x ∷ before) items = rw (terminal_more l before items) (or_assoc (terminal_in l x) _ _)

-- the terminals are valid with one that was not named and is not the other one
ends_grown : (nodes : ℤ) (before : List Line) (id : ℤ) (letter : Letter) → IsNode nodes id
    → is_some (terminal_of letter before) ≡ false → is_id id (terminal_of (other_letter letter) before) ≡ false
    → AreEnds nodes (terminal_of S before) (terminal_of T before)
    → (let after = before ++ Item.Terminal id letter ∷ [] in
    AreEnds nodes (terminal_of S after) (terminal_of T after))
ends_grown nodes before id S node once h ends =
    let none = none_is (terminal_of S before) once in
    simp (terminal_more, none, or_none {X = ℤ}) (source_named nodes id (terminal_of T before) node (rw none at ends) h)
ends_grown nodes before id T node once h ends =
    let none = none_is (terminal_of T before) once in
    simp (terminal_more, none, or_none {X = ℤ}) (sink_named nodes id (terminal_of S before) node (rw none at ends) h)

-- what the items of a problem make is valid with the next item
next_item : (p : Problem) (k : Kind) (before : List Line) (i : Line) → p.kind ≡ k → Some k ≡ kind_before i
    → OnSlots (slots_of i) → list_all (is_in_range (Some p)) (ids_in i) ≡ true → IsNext before i
    → SoundAs k p.nodes before → SoundAs k p.nodes (before ++ i ∷ [])
next_item p Kinds.Min before (Item.Supply id flow) e b fit r n s = (
  graph_kept costs cost_arc_in p.nodes before (Item.Supply id flow) s.0 refl,
  supplies_grown p.nodes before id flow (nodes_there p (Item.Supply id flow) (ap is_companion e) r).0 fit.1.1.0 s.1,
)
next_item p Kinds.Min before (Item.MinArc src dst low cap cost) e b fit r n s =
    let i = Item.MinArc src dst low cap cost in
    let ends = nodes_there p i (ap is_companion e) r in
    let arc : CostArc = record { low = low; cap = cap; cost = cost } in (
      graph_grown costs cost_arc_in p.nodes before i s.0 ((src, dst), arc) refl (record {
        tail = ends.0;
        head = ends.1.0;
        is_arc = record { some = fit.1.1.1.0.1; room = grind (arith, ints, n.low) };
        numbers = (fit.1.1.1.0.0, (fit.1.1.1.1.0.0, (fit.1.1.1.1.1.0, tt)));
      }) (sym (cost_passes (arcs_of cost_arc_in before) ((src, dst), arc)) ∙ n.sum),
      rw (kept supply_in before i refl) s.1,
    )
next_item p Kinds.Max before (Item.Terminal id letter) e b fit r n s = (
  graph_kept capacities cap_arc_in p.nodes before (Item.Terminal id letter) s.0 refl,
  ends_grown p.nodes before id letter (nodes_there p (Item.Terminal id letter) (ap is_companion e) r).0 n.once n.apart
      s.1,
)
next_item p Kinds.Max before (Item.MaxArc src dst cap) e b fit r n s =
    let i = Item.MaxArc src dst cap in
    let ends = nodes_there p i (ap is_companion e) r in (
      graph_grown capacities cap_arc_in p.nodes before i s.0 ((src, dst), record { cap = cap }) refl (record {
        tail = ends.0;
        head = ends.1.0;
        is_arc = record { some = fit.1.1.1.0.1 };
        numbers = (fit.1.1.1.0.0, tt);
      }) (sym (total_passes (arcs_of cap_arc_in before) ((src, dst), record { cap = cap })) ∙ n.sum),
      simp (terminal_more, or_none {X = ℤ}) s.1,
    )
next_item p Kinds.Sp before (Item.SpArc src dst length) e b fit r n s =
    let i = Item.SpArc src dst length in
    let ends = nodes_there p i (ap is_companion e) r in
    graph_grown lengths length_arc_in p.nodes before i s ((src, dst), record { length = length }) refl
    (record { tail = ends.0; head = ends.1.0; is_arc = tt; numbers = (fit.1.1.1.0, tt) }) refl
next_item p Kinds.Ss before (Item.Source id) e b fit r n s =
    rw (grown source_in before (Item.Source id) id refl)
    (all_end IsId (filter_map source_in before) id s ((ids_there p (Item.Source id) r).0 fit.1.0))
next_item p Kinds.P2p before (Item.Query first second) e b fit r n s =
    let ids = ids_there p (Item.Query first second) r in
    rw (grown query_in before (Item.Query first second) (first, second) refl)
    (all_end (λ (q : ℤ × ℤ). IsId q.0 × IsId q.1) (filter_map query_in before) (first, second) s
    (ids.0 fit.1.0, ids.1.0 fit.1.1.0))
next_item p Kinds.Co before (Item.Point id x y) e b fit r n s =
    let points = by_key (filter_map point_in before) in
    rw (grown point_in before (Item.Point id x y) (id, (x, y)) refl, by_key_push) (record {
      map = ascending_put int_cmp id (x, y) int_cmp_total points s.map;
      each =
          each_put id (x, y) IsPoint points
          (record { id = (ids_there p (Item.Point id x y) r).0 fit.1.0; x = fit.1.1.0; y = fit.1.1.1.0 }) s.each;
    })
next_item p _ before _ e b fit r n s = cc

pub some_is : (I J : Instance) → Some I ≡ Some J → I ≡ J
some_is I J e = cc

terminals_valid : (nodes : ℤ) (a b : Option ℤ) (G : Graph CapArc) (I : Instance) → max_flow a b G ≡ Some I
    → IsValidGraph capacities G → AreEnds nodes a b → G.nodes ≡ nodes → IsValid I
terminals_valid nodes (Some a) (Some b) G I e v s g = rw (← some_is (MaxFlow a b G) I e) (v, rw g s)
terminals_valid nodes _ _ G I e v s g = cc

kind_valid : (k : Kind) (nodes : ℤ) (items : List Line) (I : Instance) → SoundAs k nodes items
    → instance_as k nodes items ≡ Some I → IsValid I
kind_valid Kinds.Max nodes items I s e =
    terminals_valid nodes (terminal_of S items) (terminal_of T items) (graph_of cap_arc_in nodes items) I e s.0 s.1 refl
kind_valid _ nodes items I s e = rw (← some_is _ I e) s

problem_valid : (o : Option Problem) (items : List Line) (I : Instance) → ForProblem SoundAs o items
    → option_and_then (λ (p : Problem). instance_as p.kind p.nodes items) o ≡ Some I → IsValid I
problem_valid None items I s e = cc
problem_valid (Some p) items I s e = kind_valid p.kind p.nodes items I s e

pub reads_valid : (t : List ℕ) (I : Instance) → Reads t I → IsValid I
reads_valid t I r =
    problem_valid (problem_of (items_of (lines t))) (items_of (lines t)) I
    (by_problem SoundAs first_item next_item (lines t) r.clean) r.instance_is
