-- What the result of taking an item says about its first fault.
use Rattle.std.specs.Prelude.{◌≡◌, ◌-◌, ◌^◌, ℤ, pos, List, [], ◌∷◌, ◌++◌, Bool, false, ◌&&◌, not, int_lt, Option, Some, None, is_some, Result, Ok, Err}
use Rattle.dn_line.specs.declared.code.Code.{Code}
use Rattle.dn_line.specs.declared.code.Code.TheVariants.{NodeOutOfRange, RepeatedNode, SameTerminal, LowAboveCap, SumTooLarge}
use Rattle.dn_line.specs.Faults.{first_fault}
use Rattle.dn_arc_theory.specs.Kinds.{ArcKind}
use Rattle.dn_arc_theory.specs.Pairs.{bundle}
use Rattle.std.specs.List.{list_any}
use Rattle.std.specs.Ordering.{int_eq}
use Rattle.std.specs.Option.{option_map_or}
use Rattle.dn_line.specs.Words.{first}
use Rattle.dn_line.specs.declared.line.Line.{Line}
use Rattle.dn_line.specs.declared.word.Word.{Word}
use Rattle.dn_instance.specs.Items.{problem_of, counted}
use Rattle.dn_instance.specs.TextFaults.{is_arc, is_full, is_counted_letter, is_node_letter}
use Rattle.dn_bundle_trait.specs.declared.bundle.BundleFault.{BundleFault}
use Rattle.dn_bundle_trait.specs.declared.bundle.BundleFault.TheVariants as BundleFaults
use Rattle.dn_instance.specs.declared.refusal.ItemFault.{ItemFault}
use Rattle.dn_instance.specs.declared.refusal.ItemFault.TheVariants.{Text, Memory}

-- the result is this fault if there is one, and otherwise success or `Memory`
abbrev pub AnswersFault : Result (Unit {0}) ItemFault → Option Code → Type 0
AnswersFault (Ok x) fault = fault ≡ None
AnswersFault (Err (Text code)) fault = fault ≡ Some code
AnswersFault (Err Memory) fault = fault ≡ None

-- the fault of an item whose arc a bundle does not take
abbrev pub item_fault : BundleFault → ItemFault
item_fault BundleFaults.Sum = Text SumTooLarge
item_fault BundleFaults.Memory = Memory

-- an `n` line follows an `a` line
abbrev pub is_late_node : List Line → List Word → Bool
is_late_node before ws = is_node_letter (first ws) && list_any is_arc before

-- a counted line follows at least as many counted lines as declared
abbrev pub is_surplus : List Line → List Word → Bool
is_surplus before ws = is_counted_letter (first ws) && is_full (problem_of before) (counted before)

-- a node is named, and it is this one
abbrev pub is_id : ℤ → Option ℤ → Bool
is_id id o = option_map_or (λ other. int_eq other id) o false

-- a graph with this many nodes has the node
abbrev pub in_graph : ℤ → ℤ → Bool
in_graph nodes id = int_lt (pos 0) id && not (int_lt nodes id)

-- the first fault of an arc after these arcs; `is_arc` says whether a problem may have the arc
abbrev pub arc_fault : {Arc : Type 0} → ArcKind Arc → ℤ → List ((ℤ × ℤ) × Arc) → Bool → (ℤ × ℤ) × Arc → Option Code
arc_fault kind nodes before is_arc a =
    first_fault
    ((NodeOutOfRange, not (in_graph nodes a.0.0 && in_graph nodes a.0.1))
    ∷ (LowAboveCap, not is_arc)
    ∷ (SumTooLarge, int_lt (pos (2 ^ 63 - 1)) (kind.capacity (bundle a.0 before ++ a.1 ∷ [])))
    ∷ [])

-- the first fault of a `max` node line, given the terminals of its own letter and of the other letter so far
abbrev pub terminal_fault : ℤ → Option ℤ → Option ℤ → ℤ → Option Code
terminal_fault nodes own other id =
    first_fault
    ((NodeOutOfRange, not (in_graph nodes id)) ∷ (RepeatedNode, is_some own) ∷ (SameTerminal, is_id id other) ∷ [])

-- the first fault of a `min` node line; `named` says whether its ID has an earlier node line
abbrev pub supply_fault : ℤ → Bool → ℤ → Option Code
supply_fault nodes named id = first_fault ((NodeOutOfRange, not (in_graph nodes id)) ∷ (RepeatedNode, named) ∷ [])

-- the first fault of an ID of a companion
abbrev pub id_fault : ℤ → Option Code
id_fault id = first_fault ((NodeOutOfRange, not (int_lt (pos 0) id)) ∷ [])

-- the first fault of the two IDs of a query
abbrev pub pair_fault : ℤ × ℤ → Option Code
pair_fault p = first_fault ((NodeOutOfRange, not (int_lt (pos 0) p.0 && int_lt (pos 0) p.1)) ∷ [])

-- the first fault of a point; `named` says whether its ID has an earlier point
abbrev pub point_fault : Bool → ℤ → Option Code
point_fault named id = first_fault ((NodeOutOfRange, not (int_lt (pos 0) id)) ∷ (RepeatedNode, named) ∷ [])
