-- Lemmas on the end of a text.
use Rattle.std.proofs.Common.{◌≡◌, ℕ, ℤ, pos, ◌≤ℤ◌, ◌+ℤ◌, List, Bool, true, false, ◌||◌, cond, int_lt, Option, Some, None, Ok, is_none, refl, sym, ◌∙◌, arith}
use Rattle.std.proofs.Math.Bool.{not-not}
use Rattle.std.proofs.lemmas.Bool.Decides.{nat_tests}
use Rattle.std.proofs.lemmas.Int.{ints}
use Rattle.dn_line.specs.declared.code.Code.TheVariants.{MissingTerminal, TooFewLines}
use Rattle.dn_line.specs.declared.kind.Kind.{Kind}
use Rattle.dn_line.specs.declared.kind.Kind.TheVariants.{Max}
use Rattle.dn_line.specs.declared.kind.Letter.TheVariants.{S, T}
use Rattle.dn_line.specs.declared.line.Line.{Line}
use Rattle.dn_arc_theory.specs.Kinds.{capacities, costs, lengths}
use Rattle.dn_arc_theory.specs.State.CurveListed.{listed}
use Rattle.dn_arc_theory.specs.State.Curves.{CurveNumbers}
use Rattle.dn_arc_theory.specs.State.SingleArcs.{cap_listed, length_listed}
use Rattle.dn_arc_theory.specs.declared.arc.Form.TheVariants.{One}
use Rattle.dn_table.proofs.GrownLaws.{stands_as}
use Rattle.dn_instance.specs.Instances.{Instance, MaxFlow}
use Rattle.dn_instance.specs.Items.{counted, terminal_of, graph_of, arcs_of, cap_arc_in, cost_arc_in, length_arc_in, instance_as}
use Rattle.dn_instance.specs.TextFaults.{end_fault, lacks_terminal}
use Rattle.dn_instance.specs.State.Bodies.{TableHolds}
use Rattle.dn_bundle.specs.State.Listings.{total_arcs}
use Rattle.dn_instance.specs.State.TextParts.{AnyBody, BodyHolds, DescriptorsHold, IsSorted, SortsTable, body_kind, terminals_of}
use Rattle.dn_instance.specs.State.Ends.{EndsWith}
use Rattle.dn_instance.specs.State.Helds.{Bundles, Contents, OfMax, Parsed, Shows, contents_of}
use Rattle.dn_instance.specs.State.TextsSoFar.{HasRead, problem_as, text_kind}
use Rattle.dn_instance.specs.declared.body.Body.TheVariants as Bodies
use Rattle.dn_instance.specs.declared.node_descriptors.NodeDescriptors.{NodeDescriptors}
use Rattle.dn_bundle.specs.declared.least.Least.{Least}
use Rattle.dn_bundle.specs.declared.total.Total.{Total}
use Rattle.dn_instance.specs.declared.text_so_far.TextSoFar.{TextSoFar}
use Rattle.dn_instance.proofs.ItemSteps.{full_is, problem_agrees}

-- the instance of the items, and that these contents represent it
abbrev Made : Kind → ℤ → List Line → Contents → Type 0
Made kind nodes items contents =
    (lacks_terminal (Some kind) items ≡ false)
    × ((I : Instance) × (instance_as kind nodes items ≡ Some I) × Shows contents I)

module _ (h : NodeDescriptors) (items : List Line) (descriptors : DescriptorsHold h items) (nodes : ℤ)
    (terminals : ℤ × ℤ) where
  max_made : (t u : Bundles Total) → TableHolds capacities cap_arc_in total_arcs t items → SortsTable t u
      → (source sink : Option ℤ) → h.source ≡ source → h.sink ≡ sink → terminals_of Max source sink ≡ Some terminals
      → Made Max nodes items (OfMax terminals.0 terminals.1 u)
  max_made t u k s (Some a) (Some c) from to e =
      let one : terminal_of S items ≡ Some a = sym descriptors.source_is ∙ from in
      let other : terminal_of T items ≡ Some c = sym descriptors.sink_is ∙ to in
      let both : (a, c) ≡ terminals = cc in (
        rw (one, other),
        (
          MaxFlow a c (graph_of cap_arc_in nodes items),
          rw (one, other),
          rw (← both) (
            refl,
            refl,
            stands_as capacities (λ (x : Total). cap_listed x.total) t u (arcs_of cap_arc_in items) s.ascending s.kept
                k.lists_them,
          ),
        ),
      )
  max_made t u k s _ _ from to e = cc

  -- the contents of a whole text represent the instance of its items
  pub made : (b c : AnyBody) → BodyHolds b items → IsSorted b c
      → terminals_of (body_kind b) h.source h.sink ≡ Some terminals
      → Made (body_kind b) nodes items (contents_of h.supplies.entries terminals c)
  made (Bodies.Min t) (Bodies.Min u) k s e = (
    refl,
    (
      _,
      refl,
      (
        descriptors.supplies.entries_are,
        stands_as costs (λ (x : CurveNumbers). listed One x.units x.cost x.steps) t u (arcs_of cost_arc_in items)
            s.ascending s.kept k.lists_them,
      ),
    ),
  )
  made (Bodies.Max t) (Bodies.Max u) k s e = max_made t u k s h.source h.sink refl refl e
  made (Bodies.Sp t) (Bodies.Sp u) k s e = (
    refl,
    (
      _,
      refl,
      stands_as lengths (λ (x : Least). length_listed x.length) t u (arcs_of length_arc_in items) s.ascending s.kept
          k.lists_them,
    ),
  )
  made (Bodies.Ss ids) (Bodies.Ss new) k s e = (refl, (_, refl, rw s k))
  made (Bodies.P2p pairs) (Bodies.P2p new) k s e = (refl, (_, refl, rw s k))
  made (Bodies.Co points) (Bodies.Co new) k s e = (refl, (_, refl, rw s k.entries_are))
  made _ _ k s e = absurd s

end_is : (t : TextSoFar) (items : List Line) (kind : Kind) (lacks few : Bool) → HasRead t items
    → text_kind t ≡ Some kind → lacks_terminal (Some kind) items ≡ lacks → int_lt (pos 0) t.due ≡ few
    → end_fault items ≡ cond lacks (Some MissingTerminal) (cond few (Some TooFewLines) None)
end_is t items kind lacks few at is l f =
    rw (problem_agrees t items kind at is, l, full_is t items at, not-not (int_lt (pos 0) t.due), f)

module _ (t : TextSoFar) (items : List Line) (b : AnyBody) (at : HasRead t items) (is : t.body ≡ Some b) where
  kind_is : text_kind t ≡ Some (body_kind b)
  kind_is = rw is

  -- a text with its terminals and as many counted lines as declared ends without a fault
  pub ends_whole : (c : AnyBody) (held : Parsed) (terminals : ℤ × ℤ) → IsSorted b c
      → terminals_of (body_kind b) t.descriptors.source t.descriptors.sink ≡ Some terminals
      → int_lt (pos 0) t.due ≡ false → held.nodes ≡ t.nodes → held.lines ≡ t.count
      → held.contents ≡ contents_of t.descriptors.supplies.entries terminals c → EndsWith items (Ok held)
  ends_whole c held terminals sorted both enough nodes lines contents =
      let m = made t.descriptors items at.descriptors_hold t.nodes terminals b c (rw is at at.body_holds) sorted both
      in (
        end_is t items (body_kind b) false false at kind_is m.0 enough,
        record {
          problem = problem_as t (body_kind b);
          problem_is = problem_agrees t items (body_kind b) at kind_is;
          instance = m.1.0;
          made = m.1.1;
          nodes_are = nodes;
          lines_are = lines ∙ all_read (counted items) t.due t.count at.due_is at.due_some enough;
          shows = rw contents m.1.2;
        },
      )
    where
      all_read : (k : ℕ) (d c : ℤ) → pos k +ℤ d ≡ c → pos 0 ≤ℤ d → int_lt (pos 0) d ≡ false → c ≡ pos k
      all_read k d c e some none = grind (arith, ints, nat_tests)

  pub ends_early : (terminals : ℤ × ℤ)
      → terminals_of (body_kind b) t.descriptors.source t.descriptors.sink ≡ Some terminals
      → int_lt (pos 0) t.due ≡ true → end_fault items ≡ Some TooFewLines
  ends_early terminals both few =
      end_is t items (body_kind b) false true at kind_is (not_lacking (body_kind b) terminals both) few
    where
      not_lacking : (kind : Kind) (terminals : ℤ × ℤ)
          → terminals_of kind t.descriptors.source t.descriptors.sink ≡ Some terminals
          → lacks_terminal (Some kind) items ≡ false
      not_lacking Max terminals e =
          rw (← at.descriptors_hold.source_is, ← at.descriptors_hold.sink_is)
          (by t.descriptors.source t.descriptors.sink e)
        where
          by : (a c : Option ℤ) → terminals_of Max a c ≡ Some terminals → (is_none a || is_none c) ≡ false
          by (Some a) (Some c) e = refl
          by _ _ e = cc
      not_lacking _ terminals e = refl
