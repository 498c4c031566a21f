-- Lemmas on `n` lines: what the descriptors hold after them, and that other lines keep what the descriptors hold.
use Rattle.std.proofs.Common.{arith, ◌≡◌, ℤ, List, [], ◌∷◌, ◌++◌, true, false, ◌||◌, not, Option, Some, None, is_some, IsSome, Result, Ok, Err, OnOk, OnErr, refl, sym, ◌∙◌, inr, filter_map, pos, Bool, cond, int_cmp, int_eq, option_map, rules}
use Rattle.dn_instance.proofs.CleanItems.{or_none}
use Rattle.dn_instance.proofs.ValidLaws.{terminal_more, kept, grown}
use Rattle.std.proofs.Math.Bool.{or-false, and-true}
use Rattle.std.proofs.lemmas.List.Folds.{list_any-append}
use Rattle.std.proofs.lemmas.Result.{on_err_weaker, on_ok_weaker}
use Rattle.dn_line.specs.declared.code.Code.TheVariants.{NodeOutOfRange, RepeatedNode}
use Rattle.dn_line.specs.declared.kind.Kind.{Kind}
use Rattle.dn_line.specs.declared.kind.Kind.TheVariants.{Min}
use Rattle.dn_line.specs.declared.kind.Letter.{Letter}
use Rattle.dn_line.specs.declared.kind.Letter.TheVariants.{S, T}
use Rattle.dn_line.specs.declared.line.Line.{Line}
use Rattle.dn_line.specs.declared.line.Line.TheVariants as Item
use Rattle.dn_line.specs.declared.row.Row.{Row}
use Rattle.dn_nodes.specs.State.Nodes.{Gains, Nodes, is_known, with_entry}
use Rattle.dn_arc_theory.specs.Kinds.{capacities, costs, lengths, ArcKind}
use Rattle.dn_instance.specs.Items.{by_key, cap_arc_in, cost_arc_in, is_counted, length_arc_in, point_in, problem_in, query_in, source_in, supply_in, terminal_in, terminal_of}
use Rattle.dn_instance.specs.TextFaults.{has_point, has_supply}
use Rattle.dn_line.specs.LineTable.{is_companion}
use Rattle.dn_instance.specs.State.Bodies.{Keeps, MapHolds, TakesRow, TableHolds}
use Rattle.dn_instance.specs.State.TextParts.{AnyBody, BodyHolds, DescriptorsHold, body_kind}
use Rattle.dn_instance.specs.State.TextsSoFar.{HoldsBody}
use Rattle.dn_instance.specs.State.ItemFaults.{AnswersFault, in_graph, terminal_fault, supply_fault}
use Rattle.dn_instance.specs.State.RowHeads.{counted_line}
use Rattle.dn_instance.specs.declared.body.Body.TheVariants as Bodies
use Rattle.dn_instance.specs.declared.node_descriptors.NodeDescriptors.{NodeDescriptors}
use Rattle.dn_instance.specs.declared.refusal.ItemFault.{ItemFault}
use Rattle.dn_instance.specs.declared.refusal.ItemFault.TheVariants.{Memory}
use Rattle.dn_instance.proofs.FirstFaults.{none_first}
use Rattle.dn_table.proofs.GrownLaws.{none_is}
use Rattle.dn_line.specs.declared.code.Code.{Code}
use Rattle.std.specs.BTreeMap.{is_at}
use Rattle.dn_instance.proofs.MapLaws.{sought_eq, by_key_push}

-- what holds after a success without a fault
pub on_ok_from : {P Q : Type 0} (r : Result (Unit {0}) ItemFault) (f : Option Code) → AnswersFault r f
    → (f ≡ None → P → Q) → OnOk r P → OnOk r Q
on_ok_from (Ok x) f a go ok = go a ok
on_ok_from (Err e) f a go ok = tt

-- the item is no `n` line
pub record IsNoDescriptor (i : Line) : Type 0 where
  pub supply : supply_in i ≡ None
  pub other : (q : ℤ) → has_supply q i ≡ false
  pub terminal : (l : Letter) → terminal_in l i ≡ None

-- the item of a counted row is no `n` line
pub row_no_descriptor : (kind : Kind) (r : Row) → IsNoDescriptor (counted_line kind r)
row_no_descriptor Min r = record { supply = refl; other = λ q. refl; terminal = λ l. refl }
row_no_descriptor _ r = record { supply = refl; other = λ q. refl; terminal = λ l. refl }

module _ {X : Type 0} (entry_in : Line → Option (ℤ × X)) (has : ℤ → Line → Bool) (before : List Line) (i : Line) where
  -- an item without an ID keeps what the map holds
  map_kept : (m : Nodes X) → entry_in i ≡ None → ((q : ℤ) → has q i ≡ false) → MapHolds entry_in has m before
      → MapHolds entry_in has m (before ++ i ∷ [])
  map_kept m none no_id was = record {
    entries_are = rw (kept entry_in before i none) was.entries_are;
    known_are = λ q. rw (list_any-append (has q) before (i ∷ []), no_id q, or-false) (was.known_are q);
  }

  -- the map holds an item after it has gained its ID, and its value if it has one
  pub map_gains : (old new : Nodes X) (id : ℤ) (value : Option X) → entry_in i ≡ option_map (λ x. (id, x)) value
      → ((q : ℤ) → has q i ≡ int_eq id q) → Gains old id value new → MapHolds entry_in has old before
      → MapHolds entry_in has new (before ++ i ∷ [])
  map_gains old new id value item is_id gains was = record {
    entries_are = by_value value item gains.entries;
    known_are = λ q.
        rw (list_any-append (has q) before (i ∷ []), is_id q, or-false, ← was.known_are q, ← sought_eq q id)
        (gains.known q ∙ flip (is_at (int_cmp q) id) (is_known old q));
  }
    where
      by_value : (o : Option X) → entry_in i ≡ option_map (λ x. (id, x)) o → new.entries ≡ with_entry old.entries id o
          → new.entries ≡ by_key (filter_map entry_in (before ++ i ∷ []))
      by_value None e g = rw (kept entry_in before i e, ← was.entries_are) g
      by_value (Some x) e g = rw (grown entry_in before i (id, x) e, by_key_push, ← was.entries_are) g

      flip : (a b : Bool) → (a || b) ≡ (b || a)
      flip a b = grind arith

same_terminal : (l : Letter) (before : List Line) (i : Line) → terminal_in l i ≡ None
    → terminal_of l (before ++ i ∷ []) ≡ terminal_of l before
same_terminal l before i none = rw (terminal_more l before (i ∷ []), none) (or_none (terminal_of l before))

-- an item that is no `n` line keeps what the descriptors hold
pub descriptors_kept : (h : NodeDescriptors) (before : List Line) (i : Line) → IsNoDescriptor i
    → DescriptorsHold h before → DescriptorsHold h (before ++ i ∷ [])
descriptors_kept h before i none was = record {
  supplies = map_kept supply_in has_supply before i h.supplies none.supply none.other was.supplies;
  source_is = was.source_is ∙ sym (same_terminal S before i (none.terminal S));
  sink_is = was.sink_is ∙ sym (same_terminal T before i (none.terminal T));
}

-- `n` lines of a `max` text
module _ (nodes id : ℤ) (h : NodeDescriptors) (s : Option ℤ) (r : Result (Unit {0}) ItemFault) where
  abbrev with_source : NodeDescriptors
  with_source = record h { source = s }

  abbrev with_sink : NodeDescriptors
  with_sink = record h { sink = s }

  not_yet : (own other : Option ℤ) → terminal_fault nodes own other id ≡ None → own ≡ None
  not_yet own other f =
      none_is own
      (none_first (is_some own) RepeatedNode _ (none_first (not (in_graph nodes id)) NodeOutOfRange _ f).1).0

  pub source_taken : (l : Letter) → l ≡ S → AnswersFault r (terminal_fault nodes h.source h.sink id)
      → OnOk r (s ≡ Some id) → (r ≡ Err Memory → ⊥) → (kind : Kind) → is_companion kind ≡ false
      → TakesRow kind nodes (DescriptorsHold h) (DescriptorsHold with_source) (Item.Terminal id l) r
  source_taken l is ans ok never kind graph before a was =
      let i = Item.Terminal id S in
      rw is (record {
        answer = record {
          fault = rw (a.problem_is, a.kind_is, graph, and-true, a.nodes_are, ← was.source_is, ← was.sink_is) ans;
          memory = λ out. absurd (never out);
        };
        holds = on_ok_from r (terminal_fault nodes h.source h.sink id) ans (λ f e. record {
          supplies = map_kept supply_in has_supply before i h.supplies refl (λ q. refl) was.supplies;
          source_is = rw (terminal_more S before (i ∷ []), ← was.source_is, not_yet h.source h.sink f) e;
          sink_is = was.sink_is ∙ sym (same_terminal T before i refl);
        }) ok;
      })

  pub sink_taken : (l : Letter) → l ≡ T → AnswersFault r (terminal_fault nodes h.sink h.source id)
      → OnOk r (s ≡ Some id) → (r ≡ Err Memory → ⊥) → (kind : Kind) → is_companion kind ≡ false
      → TakesRow kind nodes (DescriptorsHold h) (DescriptorsHold with_sink) (Item.Terminal id l) r
  sink_taken l is ans ok never kind graph before a was =
      let i = Item.Terminal id T in
      rw is (record {
        answer = record {
          fault = rw (a.problem_is, a.kind_is, graph, and-true, a.nodes_are, ← was.source_is, ← was.sink_is) ans;
          memory = λ out. absurd (never out);
        };
        holds = on_ok_from r (terminal_fault nodes h.sink h.source id) ans (λ f e. record {
          supplies = map_kept supply_in has_supply before i h.supplies refl (λ q. refl) was.supplies;
          source_is = was.source_is ∙ sym (same_terminal S before i refl);
          sink_is = rw (terminal_more T before (i ∷ []), ← was.sink_is, not_yet h.sink h.source f) e;
        }) ok;
      })

  pub source_same : OnErr r (s ≡ h.source)
      → OnErr r (Keeps (DescriptorsHold h) (DescriptorsHold with_source))
  source_same same = on_err_weaker r (λ e items was. rw e was) same

  pub sink_same : OnErr r (s ≡ h.sink) → OnErr r (Keeps (DescriptorsHold h) (DescriptorsHold with_sink))
  sink_same same = on_err_weaker r (λ e items was. rw e was) same

-- an item that is not an arc does not change what the table holds
table_kept : {B Arc : Type 0} (kind : ArcKind Arc) (arc_in : Line → Option ((ℤ × ℤ) × Arc)) (lists : B → List Arc)
    (table : List ((ℤ × ℤ) × B)) (before : List Line) (i : Line) → arc_in i ≡ None
    → TableHolds kind arc_in lists table before → TableHolds kind arc_in lists table (before ++ i ∷ [])
table_kept kind arc_in lists table before i e t =
    let same = kept arc_in before i e in
    record { lists_them = rw same t.lists_them; are_arcs = rw same t.are_arcs }

-- an item that is not counted makes nothing of a body
makes_none : (i : Line) → is_counted i ≡ false → (cost_arc_in i ≡ None) × (cap_arc_in i ≡ None)
    × (length_arc_in i ≡ None) × (source_in i ≡ None) × (query_in i ≡ None) × (point_in i ≡ None)
    × ((q : ℤ) → has_point q i ≡ false)
makes_none (Item.MinArc _ _ _ _ _) h = cc
makes_none _ h = first_of (cc, search rules)

-- an item that is not counted keeps what the body holds
pub body_kept : (b : AnyBody) (before : List Line) (i : Line) → is_counted i ≡ false → BodyHolds b before
    → BodyHolds b (before ++ i ∷ [])
body_kept (Bodies.Min t) before i free h = table_kept costs cost_arc_in _ t before i (makes_none i free).0 h
body_kept (Bodies.Max t) before i free h = table_kept capacities cap_arc_in _ t before i (makes_none i free).1 h
body_kept (Bodies.Sp t) before i free h = table_kept lengths length_arc_in _ t before i (makes_none i free).2 h
body_kept (Bodies.Ss ids) before i free h = rw (kept source_in before i (makes_none i free).3) h
body_kept (Bodies.P2p pairs) before i free h = rw (kept query_in before i (makes_none i free).4) h
body_kept (Bodies.Co points) before i free h =
    map_kept point_in has_point before i points (makes_none i free).5 (makes_none i free).6 h

pub holds_kept : (o : Option AnyBody) (kind : Kind) → option_map body_kind o ≡ Some kind → (before : List Line)
    (i : Line) → is_counted i ≡ false → HoldsBody o before → HoldsBody o (before ++ i ∷ [])
holds_kept None kind is before i free h = cc
holds_kept (Some b) kind is before i free h = body_kept b before i free h

-- a problem line is not counted, and no `n` line
pub no_item : (i : Line) → IsSome (problem_in i) → (is_counted i ≡ false) × IsNoDescriptor i
no_item (Item.Graph _ _ _) h = (refl, record { supply = refl; other = λ q. refl; terminal = λ l. refl })
no_item (Item.Aux _ _) h = (refl, record { supply = refl; other = λ q. refl; terminal = λ l. refl })
no_item _ h = cc

-- `n` lines of a `min` text
module _ (nodes id flow : ℤ) (h : NodeDescriptors) (s : Nodes ℤ) (r : Result (Unit {0}) ItemFault) where
  abbrev with_supply : NodeDescriptors
  with_supply = record h { supplies = s }

  flow_in : (zero : Bool) → cond {A = Option (ℤ × ℤ)} zero None (Some (id, flow))
      ≡ option_map (λ x. (id, x)) (cond zero None (Some flow))
  flow_in true = refl
  flow_in false = refl

  pub supply_taken : AnswersFault r (supply_fault nodes (is_known h.supplies id) id)
      → OnOk r (Gains h.supplies id (cond (int_eq flow (pos 0)) None (Some flow)) s)
      → (kind : Kind) → is_companion kind ≡ false
      → TakesRow kind nodes (DescriptorsHold h) (DescriptorsHold with_supply) (Item.Supply id flow) r
  supply_taken ans ok kind graph before a was =
      let i = Item.Supply id flow in
      record {
        answer = record {
          fault = rw (a.problem_is, a.kind_is, graph, and-true, a.nodes_are, ← was.supplies.known_are id) ans;
          memory = λ out. inr tt;
        };
        holds = on_ok_weaker r (λ gains. record {
          supplies =
              map_gains supply_in has_supply before i h.supplies s id _ (flow_in (int_eq flow (pos 0))) (λ q. refl)
              gains was.supplies;
          source_is = was.source_is ∙ sym (same_terminal S before i refl);
          sink_is = was.sink_is ∙ sym (same_terminal T before i refl);
        }) ok;
      }

  -- a node line that is not taken does not change what the descriptors hold
  pub supply_same : OnErr r (s ≡ h.supplies)
      → OnErr r (Keeps (DescriptorsHold h) (DescriptorsHold with_supply))
  supply_same same = on_err_weaker r (λ e items was. rw e was) same
