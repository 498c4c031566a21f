-- What the lines of a text make, and how the next item changes it.
use Rattle.std.specs.Prelude.{◌≡◌, ℤ, List, [], ◌∷◌, ◌++◌, Bool, filter_map, Option, Some, Result, Err, OnOk, Vec}
use Rattle.std.specs.Global.{Global}
use Rattle.std.specs.List.{list_any}
use Rattle.dn_line.specs.Faults.{first_fault}
use Rattle.dn_line.specs.declared.kind.Kind.{Kind}
use Rattle.dn_line.specs.declared.line.Line.{Line}
use Rattle.dn_arc_theory.specs.Kinds.{ArcKind}
use Rattle.dn_nodes.specs.State.Nodes.{Nodes, is_known}
use Rattle.dn_table.specs.State.Tables.{AreArcs, TableLists}
use Rattle.dn_instance.specs.Items.{Problem, problem_of, arcs_of, by_key}
use Rattle.dn_instance.specs.TextFaults.{item_tests}
use Rattle.dn_instance.specs.Readers.{NeedsMemory}
use Rattle.dn_instance.specs.State.ItemFaults.{AnswersFault}
use Rattle.dn_instance.specs.State.RowHeads.{HasSigns}
use Rattle.dn_instance.specs.declared.refusal.ItemFault.{ItemFault}
use Rattle.dn_instance.specs.declared.refusal.ItemFault.TheVariants.{Memory}

-- the result says the first fault of the item after these, and memory runs out only at an item that needs it
pub record AnswersItem (before : List Line) (i : Line) (result : Result (Unit {0}) ItemFault) : Type 0 where
  pub fault : AnswersFault result (first_fault (item_tests before (Some i)))
  pub memory : result ≡ Err Memory → NeedsMemory before i

-- the items are those of a problem of this kind with these nodes, and LOW and CAP of the next item are at least 0
pub record Awaits (kind : Kind) (nodes : ℤ) (before : List Line) (i : Line) : Type 0 where
  pub problem : Problem
  pub problem_is : problem_of before ≡ Some problem
  pub kind_is : problem.kind ≡ kind
  pub nodes_are : problem.nodes ≡ nodes
  pub signs : HasSigns i

-- the result answers the item, and `Now` holds of the items with it if it has no fault
pub record TookRow (before : List Line) (Now : List Line → Type 0) (i : Line) (result : Result (Unit {0}) ItemFault)
    : Type 0 where
  pub answer : AnswersItem before i result
  pub holds : OnOk result (Now (before ++ i ∷ []))

-- the item is taken after any items of which `Old` holds
abbrev pub TakesRow : Kind → ℤ → (Old Now : List Line → Type 0) → Line → Result (Unit {0}) ItemFault → Type 0
TakesRow kind nodes Old Now i result =
    (before : List Line) → Awaits kind nodes before i → Old before → TookRow before Now i result

-- `Now` holds of all items of which `Old` holds
abbrev pub Keeps : (Old Now : List Line → Type 0) → Type 0
Keeps Old Now = (items : List Line) → Old items → Now items

-- the list has the items of its kind, in the order of the file
abbrev pub ListHolds : {X : Type 0} → (Line → Option X) → Vec X Global → List Line → Type 0
ListHolds item_in list items = list.items ≡ filter_map item_in items

-- the entries of the map are those of the items by ascending ID, and the nodes that it knows are the IDs of the items
pub record MapHolds {X : Type 0} (entry_in : Line → Option (ℤ × X)) (has : ℤ → Line → Bool) (map : Nodes X)
    (items : List Line) : Type 0 where
  pub entries_are : map.entries ≡ by_key (filter_map entry_in items)
  pub known_are : (q : ℤ) → is_known map q ≡ list_any (has q) items

-- the table represents the arcs among the items, and a problem may have each of these arcs
pub record TableHolds {B Arc : Type 0} (kind : ArcKind Arc) (arc_in : Line → Option ((ℤ × ℤ) × Arc))
    (lists : B → List Arc) (table : List ((ℤ × ℤ) × B)) (items : List Line) : Type 0 where
  pub lists_them : TableLists kind lists table (arcs_of arc_in items)
  pub are_arcs : AreArcs kind (arcs_of arc_in items)
