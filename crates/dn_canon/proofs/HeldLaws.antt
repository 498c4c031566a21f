-- Lemmas on writing the canonical text of a parsed instance.
use Rattle.std.proofs.Common.{◌≡◌, ◌<◌, ◌^◌, ℤ, List, length, Result, Ok, Err, sym, ap}
use Rattle.dn_arc_theory.specs.Kinds.{ArcKind, lengths, capacities, costs}
use Rattle.dn_arc_theory.specs.declared.arc.Form.{Form}
use Rattle.dn_arc_theory.specs.declared.arc.Form.TheVariants.{One}
use Rattle.dn_arc_theory.specs.declared.arc.LengthArc.{LengthArc}
use Rattle.dn_arc_theory.specs.declared.arc.CapArc.{CapArc}
use Rattle.dn_arc_theory.specs.declared.arc.CostArc.{CostArc}
use Rattle.dn_arc_theory.specs.State.Curves.{CurveNumbers}
use Rattle.dn_bundle.specs.declared.least.Least.{Least}
use Rattle.dn_bundle.specs.declared.total.Total.{Total}
use Rattle.dn_arc_theory.specs.State.SingleArcs.{length_listed, cap_listed}
use Rattle.dn_arc_theory.specs.State.CurveListed.{listed}
use Rattle.dn_instance.specs.State.Helds.{Bundles, Shows, OfMin, OfMax, OfSp, OfSs, OfP2p, OfCo}
use Rattle.dn_instance.specs.Instances.{Graph, Instance, MinCostFlow, MaxFlow, ShortestPaths, Sources, Queries, Coordinates, nodes_of, size_of}
use Rattle.dn_table.specs.State.Tables.{TableLists}
use Rattle.dn_instance.specs.Validity.{IsValid, IsValidGraph, AreSupplies, AreTerminals}
use Rattle.dn_instance.specs.declared.refusal.Refusal.{Refusal}
use Rattle.dn_sink.specs.declared.sink.SinkFault.{SinkFault}
use Rattle.dn_canon.specs.Prints.{print}
use Rattle.dn_sink.specs.Puts.{Puts}
use Rattle.dn_canon.specs.State.CanonGraphs.{IsCanonGraphOf}
use Rattle.dn_canon.specs.State.ListedArcs.{listed_arcs, listed_graph}
use Rattle.dn_canon.specs.State.Writes.{Writes, WritesCanon, written_as}
use Rattle.dn_canon.proofs.ListedLaws.{min_canon, max_canon}
use Rattle.dn_instance.proofs.SameLaws.{refl_of}
use Rattle.dn_canon.specs.CanonInstances.{IsCanonInstance}
use Rattle.dn_sink.specs.Sinks.{SinkFacts}

-- the arcs that a table lists make the canonical graph of each graph that the table represents
abbrev Makes : {B Arc : Type 0} → Form → ArcKind Arc → (Form → B → List Arc) → (B → List Arc) → ℤ → Bundles B → Type 0
Makes {B} {Arc} form kind lists one nodes table = (G : Graph Arc) → G.nodes ≡ nodes → TableLists kind one table G.arcs
    → IsValidGraph kind G → IsCanonGraphOf kind form (listed_graph (lists form) nodes table) G

-- a companion that contents represent is what they list
pub shows_sources : (ids : List ℤ) (I : Instance) → Shows (OfSs ids) I → I ≡ Sources ids
shows_sources ids (Sources items) s = ap Sources (sym s)
shows_sources ids _ s = absurd s

pub shows_queries : (pairs : List (ℤ × ℤ)) (I : Instance) → Shows (OfP2p pairs) I → I ≡ Queries pairs
shows_queries pairs (Queries items) s = ap Queries (sym s)
shows_queries pairs _ s = absurd s

pub shows_points : (points : List (ℤ × (ℤ × ℤ))) (I : Instance) → Shows (OfCo points) I → I ≡ Coordinates points
shows_points points (Coordinates items) s = ap Coordinates (sym s)
shows_points points _ s = absurd s

module _ {S : Type 0} (sink : SinkFacts S) (old new : S) (form : Form) where
  -- putting the text of a companion writes its canonical text
  pub companion_written : (K I : Instance) (put : Result (Unit {0}) SinkFault) (result : Result (Unit {0}) Refusal)
      → written_as put ≡ result → IsCanonInstance form K → I ≡ K → IsValid I → size_of K < 2 ^ 63
      → Puts sink old new (print K) put → WritesCanon sink old new form I result
  companion_written K I put result w c e v few p =
      rw (← w, e) (K, record { valid = rw e at v; canonical = c; same = refl_of K }, written put p)
    where
      written : (r : Result (Unit {0}) SinkFault) → Puts sink old new (print K) r
          → Writes sink old new (print K) (size_of K) (written_as r)
      written (Ok x) p = (p, few)
      written (Err x) p = (p, few)

  pub lengths_written : (lists : Form → Least → List LengthArc) (nodes : ℤ) (table : Bundles Least) (I : Instance)
      (result : Result (Unit {0}) Refusal) → Shows (OfSp table) I → nodes ≡ nodes_of I → IsValid I
      → Makes form lengths lists (λ (b : Least). length_listed b.length) nodes table
      → Writes sink old new (print (ShortestPaths (listed_graph (lists form) nodes table)))
      (length (listed_arcs (lists form) table)) result
      → WritesCanon sink old new form I result
  lengths_written lists nodes table (ShortestPaths G) result s n v makes w =
      let canon = makes G (sym n) s.lists_them v in
      (ShortestPaths _, record { valid = canon.valid; canonical = canon.canonical; same = canon.same }, w)
  lengths_written lists nodes table _ result s n v makes w = absurd s

  pub capacities_written : (lists : Form → Total → List CapArc) (nodes a b : ℤ) (table : Bundles Total) (I : Instance)
      (result : Result (Unit {0}) Refusal) → Shows (OfMax a b table) I → nodes ≡ nodes_of I → IsValid I
      → Makes form capacities lists (λ (b : Total). cap_listed b.total) nodes table
      → Writes sink old new (print (MaxFlow a b (listed_graph (lists form) nodes table)))
      (length (listed_arcs (lists form) table)) result
      → WritesCanon sink old new form I result
  capacities_written lists nodes a b table (MaxFlow s t G) result sh n v makes w =
      let ends : AreTerminals nodes a b = rw (n, sh.0, sh.1) v.1 in
      rw (← sh.0, ← sh.1) (
        MaxFlow a b (listed_graph (lists form) nodes table),
        max_canon form a b G _ (makes G (sym n) sh.2.lists_them v.0) ends,
        w,
      )
  capacities_written lists nodes a b table _ result sh n v makes w = absurd sh

  pub costs_written : (lists : Form → CurveNumbers → List CostArc) (nodes : ℤ) (flows : List (ℤ × ℤ))
      (table : Bundles CurveNumbers) (I : Instance) (result : Result (Unit {0}) Refusal) → Shows (OfMin flows table) I
      → nodes ≡ nodes_of I → IsValid I
      → Makes form costs lists (λ (b : CurveNumbers). listed One b.units b.cost b.steps) nodes table
      → Writes sink old new (print (MinCostFlow flows (listed_graph (lists form) nodes table)))
      (length (listed_arcs (lists form) table)) result
      → WritesCanon sink old new form I result
  costs_written lists nodes flows table (MinCostFlow supplies G) result s n v makes w =
      let are : AreSupplies nodes flows = rw (n, s.0) v.1 in
      rw (← s.0) (
        MinCostFlow flows (listed_graph (lists form) nodes table),
        min_canon form flows G _ (makes G (sym n) s.1.lists_them v.0) are,
        w,
      )
  costs_written lists nodes flows table _ result s n v makes w = absurd s
