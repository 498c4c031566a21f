-- Lemmas that a text without a fault has as many counted lines as arcs, items or points.
use Rattle.std.proofs.Common.{◌≡◌, ℕ, suc, ◌*◌, ◌≤◌, ◌<◌, ◌^◌, ℤ, pos, List, [], ◌∷◌, ◌++◌, length, length-append, filter_map, Option, Some, None, true, false, refl, sym, ap, ◌∙◌, arith, option_map}
use Rattle.dn_instance.specs.TextFaults.{ids_in, is_in_range}
use Rattle.std.specs.List.{list_all}
use Rattle.dn_line.specs.declared.kind.Kind.{Kind}
use Rattle.dn_line.specs.declared.kind.Kind.TheVariants as Kinds
use Rattle.dn_line.specs.declared.line.Line.{Line}
use Rattle.dn_line.specs.declared.line.Line.TheVariants as Item
use Rattle.dn_line.specs.State.Spelling.{slots_of, kind_before}
use Rattle.dn_arc_theory.specs.Entries.{cap_entries, cost_entries, length_entries}
use Rattle.dn_instance.specs.Instances.{Instance, nodes_of, size_of}
use Rattle.dn_instance.specs.EntryCount.{entries_as, entries_by, entries_so_far}
use Rattle.dn_table.proofs.EntryLaws.{graph_few, costs_few, capacities_few, lengths_few}
use Rattle.dn_instance.specs.Items.{Problem, problem_in, problem_of, arcs_of, length_arc_in, cap_arc_in, cost_arc_in, by_key, source_in, query_in, point_in, counted, is_counted, instance_as, max_flow, graph_of, terminal_of}
use Rattle.dn_line.specs.declared.kind.Letter.TheVariants.{S, T}
use Rattle.dn_instance.specs.Texts.{items_of, IsClean}
use Rattle.dn_instance.proofs.CleanItems.{IsNext}
use Rattle.dn_instance.proofs.MapLaws.{points_named, by_key_push, found_by_key, one_more_key}
use Rattle.dn_instance.proofs.ItemSteps.{counted_yes, counted_no}
use Rattle.dn_instance.proofs.ValidLaws.{kept, grown, OnSlots, some_is, ForProblem, by_problem}

-- there are as many counted lines as arcs, items or points, and NODES of a companion is 0
abbrev SizedAs : Kind → ℤ → List Line → Type 0
SizedAs Kinds.Min nodes items = counted items ≡ length (arcs_of cost_arc_in items)
SizedAs Kinds.Max nodes items = counted items ≡ length (arcs_of cap_arc_in items)
SizedAs Kinds.Sp nodes items = counted items ≡ length (arcs_of length_arc_in items)
SizedAs Kinds.Ss nodes items = (nodes ≡ pos 0) × (counted items ≡ length (filter_map source_in items))
SizedAs Kinds.P2p nodes items = (nodes ≡ pos 0) × (counted items ≡ length (filter_map query_in items))
SizedAs Kinds.Co nodes items = (nodes ≡ pos 0) × (counted items ≡ length (by_key (filter_map point_in items)))

one_longer : {X : Type 0} (f : Line → Option X) (before : List Line) (i : Line) (x : X) → is_counted i ≡ true
    → f i ≡ Some x → counted before ≡ length (filter_map f before)
    → counted (before ++ i ∷ []) ≡ length (filter_map f (before ++ i ∷ []))
one_longer f before i x c e h =
    rw (grown f before i x e) (omega (arith, counted_yes before i c, length-append (filter_map f before) (x ∷ [])))

as_long : {X : Type 0} (f : Line → Option X) (before : List Line) (i : Line) → is_counted i ≡ false → f i ≡ None
    → counted before ≡ length (filter_map f before)
    → counted (before ++ i ∷ []) ≡ length (filter_map f (before ++ i ∷ []))
as_long f before i c e h = rw (kept f before i e) (counted_no before i c ∙ h)

next_sized : (p : Problem) (k : Kind) (before : List Line) (i : Line) → p.kind ≡ k → Some k ≡ kind_before i
    → OnSlots (slots_of i) → list_all (is_in_range (Some p)) (ids_in i) ≡ true → IsNext before i
    → SizedAs k p.nodes before → SizedAs k p.nodes (before ++ i ∷ [])
next_sized p Kinds.Min before (Item.Supply id flow) k e f r n s =
    as_long cost_arc_in before (Item.Supply id flow) refl refl s
next_sized p Kinds.Min before (Item.MinArc src dst low cap cost) k e f r n s =
    one_longer cost_arc_in before (Item.MinArc src dst low cap cost) _ refl refl s
next_sized p Kinds.Max before (Item.Terminal id letter) k e f r n s =
    as_long cap_arc_in before (Item.Terminal id letter) refl refl s
next_sized p Kinds.Max before (Item.MaxArc src dst cap) k e f r n s =
    one_longer cap_arc_in before (Item.MaxArc src dst cap) _ refl refl s
next_sized p Kinds.Sp before (Item.SpArc src dst length) k e f r n s =
    one_longer length_arc_in before (Item.SpArc src dst length) _ refl refl s
next_sized p Kinds.Ss before (Item.Source id) k e f r n s =
    (s.0, one_longer source_in before (Item.Source id) _ refl refl s.1)
next_sized p Kinds.P2p before (Item.Query first second) k e f r n s =
    (s.0, one_longer query_in before (Item.Query first second) _ refl refl s.1)
next_sized p Kinds.Co before (Item.Point id x y) k e f r n s =
    let es = filter_map point_in before in
    let new = one_more_key id (x, y) (by_key es) (found_by_key id es ∙ points_named id before ∙ n.once) in (
      s.0,
      rw (grown point_in before (Item.Point id x y) (id, (x, y)) refl, by_key_push)
          (counted_yes before (Item.Point id x y) refl ∙ ap suc s.1 ∙ sym new),
    )
next_sized p _ before _ k e f r n s = cc

-- after the problem line alone, the numbers agree
first_sized : (i : Line) → OnSlots (slots_of i) → None ≡ kind_before i → ForProblem SizedAs (problem_in i) (i ∷ [])
first_sized (Item.Graph Kinds.Min nodes arcs) s e = refl
first_sized (Item.Graph Kinds.Max nodes arcs) s e = refl
first_sized (Item.Graph Kinds.Sp nodes arcs) s e = refl
first_sized (Item.Aux Kinds.Ss count) s e = (refl, refl)
first_sized (Item.Aux Kinds.P2p count) s e = (refl, refl)
first_sized (Item.Aux Kinds.Co count) s e = (refl, refl)
first_sized _ s e = absurd (first_of (assumption, cc))

clean_sized : (ls : List (List ℕ)) → IsClean ls → ForProblem SizedAs (problem_of (items_of ls)) (items_of ls)
clean_sized = by_problem SizedAs first_sized next_sized

-- the instance has these NODES and as many arcs, items or points as there are counted lines
record HasSize (nodes : ℤ) (items : List Line) (I : Instance) : Type 0 where
  nodes_are : nodes ≡ nodes_of I
  size_is : counted items ≡ size_of I

max_sized : (nodes : ℤ) (items : List Line) (a b : Option ℤ) (I : Instance)
    → counted items ≡ length (arcs_of cap_arc_in items) → max_flow a b (graph_of cap_arc_in nodes items) ≡ Some I
    → HasSize nodes items I
max_sized nodes items (Some a) (Some b) I s e = rw (← some_is _ I e) (record { nodes_are = refl; size_is = s })
max_sized nodes items _ _ I s e = cc

kind_sized : (k : Kind) (nodes : ℤ) (items : List Line) (I : Instance) → SizedAs k nodes items
    → instance_as k nodes items ≡ Some I → HasSize nodes items I
kind_sized Kinds.Min nodes items I s e = rw (← some_is _ I e) (record { nodes_are = refl; size_is = s })
kind_sized Kinds.Max nodes items I s e = max_sized nodes items (terminal_of S items) (terminal_of T items) I s e
kind_sized Kinds.Sp nodes items I s e = rw (← some_is _ I e) (record { nodes_are = refl; size_is = s })
kind_sized _ nodes items I s e = rw (← some_is _ I e) (record { nodes_are = s.0; size_is = s.1 })

pub problem_sized : (ls : List (List ℕ)) (p : Problem) (I : Instance) → IsClean ls → problem_of (items_of ls) ≡ Some p
    → instance_as p.kind p.nodes (items_of ls) ≡ Some I → (p.nodes ≡ nodes_of I) × (counted (items_of ls) ≡ size_of I)
problem_sized ls p I clean h e =
    let s = kind_sized p.kind p.nodes (items_of ls) I (rw h at (clean_sized ls clean)) e in (s.nodes_are, s.size_is)

-- the entries of the items so far fit 64 bits, since there are at most two for each counted line
so_far_by : (o : Option Problem) (items : List Line) → ForProblem SizedAs o items
    → entries_by (option_map (λ (p : Problem). p.kind) o) items ≤ 2 * counted items
so_far_by None items s = omega arith
so_far_by (Some p) items s = by_kind p.kind s
  where
    by_kind : (k : Kind) → SizedAs k p.nodes items → entries_as k items ≤ 2 * counted items
    by_kind Kinds.Min s = omega (arith, graph_few cost_entries costs_few (arcs_of cost_arc_in items))
    by_kind Kinds.Max s = omega (arith, graph_few cap_entries capacities_few (arcs_of cap_arc_in items))
    by_kind Kinds.Sp s = omega (arith, graph_few length_entries lengths_few (arcs_of length_arc_in items))
    by_kind _ s = omega (arith, s.1)

pub so_far_fits : (ls : List (List ℕ)) → IsClean ls → counted (items_of ls) < 2 ^ 63
    → entries_so_far (items_of ls) < 2 ^ 64
so_far_fits ls clean h = omega (arith, so_far_by (problem_of (items_of ls)) (items_of ls) (clean_sized ls clean))
