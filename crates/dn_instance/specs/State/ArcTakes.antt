-- What taking an arc does to the bundles of a graph, and what it returns.
use Rattle.std.specs.Prelude.{◌≡◌, ◌↔◌, ℤ, List, [], ◌∷◌, ◌++◌, Bool, IsTrue, OnOk, Result, Err}
use Rattle.dn_arc_theory.specs.State.Bundles.{BundleFacts}
use Rattle.dn_table.specs.State.Tables.{AreArcs, GraphNeedsMore, Lists, Stays}
use Rattle.dn_instance.specs.State.ItemFaults.{AnswersFault, arc_fault}
use Rattle.dn_instance.specs.declared.refusal.ItemFault.{ItemFault}
use Rattle.dn_instance.specs.declared.refusal.ItemFault.TheVariants.{Memory}

module _ {B Arc : Type 0} (bundle : BundleFacts B Arc) where
  -- the result says the first fault of the arc after any arcs that the table represents
  abbrev pub AnswersArc : ℤ → List ((ℤ × ℤ) × B) → (ℤ × ℤ) × Arc → Result (Unit {0}) ItemFault → Type 0
  AnswersArc nodes table a result =
      (arcs : List ((ℤ × ℤ) × Arc)) (is : Bool) → Lists bundle table arcs → AreArcs bundle.kind arcs
      → (IsTrue is ↔ bundle.kind.IsArc a.1) → AnswersFault result (arc_fault bundle.kind nodes arcs is a)

  -- without a fault, the new table represents the arcs of the old one and this arc
  abbrev pub GainsArc : List ((ℤ × ℤ) × B) → List ((ℤ × ℤ) × B) → (ℤ × ℤ) × Arc → Result (Unit {0}) ItemFault → Type 0
  GainsArc old new a result =
      (arcs : List ((ℤ × ℤ) × Arc)) → Stays bundle.kind → Lists bundle old arcs → AreArcs bundle.kind arcs
      → OnOk result (Lists bundle new (arcs ++ a ∷ []))

  -- memory runs out only if the arc needs memory after the arcs of the table
  abbrev pub NeedsForArc : List ((ℤ × ℤ) × B) → (ℤ × ℤ) × Arc → Result (Unit {0}) ItemFault → Type 0
  NeedsForArc table a result =
      (arcs : List ((ℤ × ℤ) × Arc)) → Lists bundle table arcs → AreArcs bundle.kind arcs → result ≡ Err Memory
      → GraphNeedsMore bundle.sizes arcs a
