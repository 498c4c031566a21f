-- Lemmas on the number of entries of an instance, given its size, and of the content of a parsed instance.
use Rattle.std.proofs.Common.{◌≡◌, ◌*◌, ◌≤◌, ◌<◌, ◌^◌, ℤ, pos, FitsSigned, w64, List, [], ◌∷◌, subst, arith, ℕ, length, ap}
use Rattle.std.specs.List.{AllByRecursion}
use Rattle.dn_arc_theory.specs.Entries.{cap_entries, cost_entries, length_entries}
use Rattle.dn_arc_theory.specs.Kinds.{ArcKind, costs, capacities, lengths}
use Rattle.dn_table.specs.State.Tables.{AreArcs, TableLists}
use Rattle.dn_table.proofs.EntryLaws.{Pair, graph_few, costs_few, capacities_few, lengths_few}
use Rattle.dn_instance.specs.State.InstanceEntries.{entries_of}
use Rattle.dn_instance.specs.Instances.{Instance, MinCostFlow, MaxFlow, ShortestPaths, Sources, Queries, Coordinates, size_of}
use Rattle.dn_instance.specs.Validity.{IsPlaced, IsValid}
use Rattle.dn_arc_theory.specs.State.CurveListed.{listed}
use Rattle.dn_arc_theory.specs.State.SingleArcs.{length_listed, cap_listed}
use Rattle.dn_arc_theory.specs.declared.arc.Form.TheVariants.{One}
use Rattle.dn_arc_theory.specs.State.Curves.{CurveNumbers}
use Rattle.dn_bundle.specs.declared.least.Least.{Least}
use Rattle.dn_bundle.specs.declared.total.Total.{Total}
use Rattle.dn_table.specs.GraphEntries.{graph_entries}
use Rattle.dn_instance.specs.State.Helds.{Bundles, Shows, OfMin, OfMax, OfSp, OfSs, OfP2p, OfCo}

-- the arcs of a valid graph may occur in a problem
pub placed_arcs : {Arc : Type 0} (kind : ArcKind Arc) (nodes : ℤ) (arcs : List (Pair × Arc))
    → AllByRecursion (IsPlaced kind nodes) arcs → AreArcs kind arcs
placed_arcs kind nodes [] h = tt
placed_arcs kind nodes (a ∷ rest) h = (h.0.is_arc, placed_arcs kind nodes rest h.1)

-- an instance makes at most two entries for each arc, item or point
pub entries_few : (I : Instance) → entries_of I ≤ 2 * size_of I
entries_few (MinCostFlow supplies graph) = graph_few cost_entries costs_few graph.arcs
entries_few (MaxFlow source sink graph) = graph_few cap_entries capacities_few graph.arcs
entries_few (ShortestPaths graph) = graph_few length_entries lengths_few graph.arcs
entries_few _ = omega arith

-- the number of entries fits 64 bits if the size fits 64 signed bits
pub entries_fit : (I : Instance) (size : ℤ) → FitsSigned w64 size → size ≡ pos (size_of I) → entries_of I < 2 ^ 64
entries_fit I size f e =
    let g : FitsSigned w64 (pos (size_of I)) = subst (FitsSigned w64) e f in
    let h = g.sfits in
    let few = entries_few I in
    grind (arith)

-- n is the number of entries of the arcs that a table represents, if this is below 2^64
abbrev Counts : {B Arc : Type 0} → ArcKind Arc → (List Arc → ℕ) → (B → List Arc) → Bundles B → ℕ → Type 0
Counts {B} {Arc} kind entries lists table n = (arcs : List ((ℤ × ℤ) × Arc)) → TableLists kind lists table arcs
    → AreArcs kind arcs → graph_entries entries arcs < 2 ^ 64 → n ≡ graph_entries entries arcs

pub min_entries : (flows : List (ℤ × ℤ)) (table : Bundles CurveNumbers) (n : ℕ)
    → Counts costs cost_entries (λ (b : CurveNumbers). listed One b.units b.cost b.steps) table n → (I : Instance)
    → IsValid I → Shows (OfMin flows table) I → entries_of I < 2 ^ 64 → n ≡ entries_of I
min_entries flows table n c (MinCostFlow supplies G) v s few =
    c G.arcs s.1.lists_them (placed_arcs costs G.nodes G.arcs v.0.placed) few
min_entries flows table n c _ v s few = absurd s

pub max_entries : (source sink : ℤ) (table : Bundles Total) (n : ℕ)
    → Counts capacities cap_entries (λ (b : Total). cap_listed b.total) table n → (I : Instance) → IsValid I
    → Shows (OfMax source sink table) I → entries_of I < 2 ^ 64 → n ≡ entries_of I
max_entries source sink table n c (MaxFlow _ _ G) v s few =
    c G.arcs s.2.lists_them (placed_arcs capacities G.nodes G.arcs v.0.placed) few
max_entries source sink table n c _ v s few = absurd s

pub sp_entries : (table : Bundles Least) (n : ℕ)
    → Counts lengths length_entries (λ (b : Least). length_listed b.length) table n → (I : Instance) → IsValid I
    → Shows (OfSp table) I → entries_of I < 2 ^ 64 → n ≡ entries_of I
sp_entries table n c (ShortestPaths G) v s few = c G.arcs s.lists_them (placed_arcs lengths G.nodes G.arcs v.placed) few
sp_entries table n c _ v s few = absurd s

pub ss_entries : (ids : List ℤ) (I : Instance) → Shows (OfSs ids) I → length ids ≡ entries_of I
ss_entries ids (Sources items) s = ap length s
ss_entries ids _ s = absurd s

pub p2p_entries : (pairs : List (ℤ × ℤ)) (I : Instance) → Shows (OfP2p pairs) I → length pairs ≡ entries_of I
p2p_entries pairs (Queries items) s = ap length s
p2p_entries pairs _ s = absurd s

pub co_entries : (points : List (ℤ × (ℤ × ℤ))) (I : Instance) → Shows (OfCo points) I → length points ≡ entries_of I
co_entries points (Coordinates items) s = ap length s
co_entries points _ s = absurd s
