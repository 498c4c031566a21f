-- Graph problems that are made of parts whose canonical instances are known (this project's profile).
use Rattle.std.specs.Prelude.{ℕ, ℤ, ◌<ℤ◌, List, [], ◌∷◌, ◌++◌, map}
use Rattle.std.specs.List.{AllByRecursion, flat_map, sum_by}
use Rattle.dn_line.specs.declared.kind.Kind.TheVariants as Kinds
use Rattle.dn_line.specs.declared.word.Keyword.TheVariants.{A, S, T}
use Rattle.dn_sink.specs.Rows.{Cells}
use Rattle.dn_arc_theory.specs.declared.arc.Form.{Form}
use Rattle.dn_instance.specs.Instances.{Instance, MinCostFlow, MaxFlow, ShortestPaths, size_of}
use Rattle.dn_instance.specs.State.Parts.{AreParts, arc_lines}
use Rattle.dn_canon.specs.CanonInstances.{IsCanonInstanceOf}
use Rattle.dn_canon.specs.Prints.{word_row, graph_row, supply_row, terminal_row}

-- both lists have the same length, and each instance of the first is the canonical one of the instance at the same
-- position of the second
abbrev pub AreCanonsOf : Form → List Instance → List Instance → Type 0
AreCanonsOf form [] [] = Unit {0}
AreCanonsOf form (J ∷ Js) (I ∷ Is) = IsCanonInstanceOf form J I × AreCanonsOf form Js Is
AreCanonsOf form _ _ = ⊥

-- I is made of parts, and these are their canonical instances
pub record HasCanonParts (form : Form) (I : Instance) : Type 0 where
  pub parts : List Instance
  pub canons : List Instance
  pub parts_are : AreParts parts I
  pub canons_are : AreCanonsOf form canons parts

-- each SRC of the first list is below each SRC of the second
abbrev pub AreBelow : List ((ℤ × ℤ) × List ℤ) → List ((ℤ × ℤ) × List ℤ) → Type 0
AreBelow these those = AllByRecursion (λ a. AllByRecursion (λ b. a.0.0 <ℤ b.0.0) those) these

-- each SRC of a part is below each SRC of all later parts
abbrev pub AreRanges : List Instance → Type 0
AreRanges [] = Unit {0}
AreRanges (I ∷ rest) = AreBelow (arc_lines I) (flat_map arc_lines rest) × AreRanges rest

-- the line of an arc with these nodes and numbers
abbrev pub line_row : (ℤ × ℤ) × List ℤ → Cells
line_row line = word_row A (line.0.0 ∷ line.0.1 ∷ line.1)

-- the arc lines of an instance
abbrev pub arc_rows : Instance → List Cells
arc_rows I = map line_row (arc_lines I)

-- the lines of a graph problem before its arcs, with this number of arcs
abbrev pub head_rows : ℕ → Instance → List Cells
head_rows arcs (MinCostFlow supplies graph) = graph_row Kinds.Min graph.nodes arcs ∷ map supply_row supplies
head_rows arcs (MaxFlow source sink graph) =
    graph_row Kinds.Max graph.nodes arcs ∷ terminal_row source S ∷ terminal_row sink T ∷ []
head_rows arcs (ShortestPaths graph) = graph_row Kinds.Sp graph.nodes arcs ∷ []
head_rows arcs _ = []

-- the lines of I before its arcs, with the total number of arcs of the given instances, and then the arc lines of these
-- instances, one instance after another
abbrev pub gathered_rows : Instance → List Instance → List Cells
gathered_rows I canons = head_rows (sum_by size_of canons) I ++ flat_map arc_rows canons
