-- What writing a text does.
use Rattle.std.specs.Prelude.{◌≡◌, ◌<◌, ◌≤◌, ◌^◌, ℕ, ℤ, List, [], ◌∷◌, IsTrue, map, Ok, Err}
use Rattle.std.specs.declared.result.Result.{Result}
use Rattle.dn_line.specs.declared.word.Keyword.TheVariants.{S, T}
use Rattle.dn_line.specs.declared.kind.Kind.{Kind}
use Rattle.dn_arc_theory.specs.State.Bundles.{BundleFacts}
use Rattle.dn_arc_theory.specs.declared.arc.Form.{Form}
use Rattle.dn_instance.specs.Instances.{Instance, size_of}
use Rattle.dn_canon.specs.CanonInstances.{IsCanonInstanceOf}
use Rattle.dn_canon.specs.Prints.{supply_row, terminal_row, graph_rows, print}
use Rattle.dn_canon.specs.State.ListedArcs.{listed_graph}
use Rattle.dn_sink.specs.Rows.{Cells, text_of}
use Rattle.dn_sink.specs.Sinks.{SinkFacts}
use Rattle.dn_sink.specs.Puts.{HasPut, PutsPrefix}
use Rattle.dn_instance.specs.declared.refusal.Refusal.{Refusal}
use Rattle.dn_instance.specs.declared.refusal.Refusal.TheVariants.{Write, CountTooLarge}
use Rattle.dn_sink.specs.declared.sink.SinkFault.{SinkFault}
use Rattle.dn_canon.specs.declared.writer.NodeLines.{NodeLines}
use Rattle.dn_canon.specs.declared.writer.NodeLines.TheVariants.{Supplies, Terminals, NoNodes}

-- the lines between the problem line and the arcs
abbrev pub node_rows : NodeLines → List Cells
node_rows (Supplies supplies) = map supply_row supplies.now.entries
node_rows (Terminals source sink) = terminal_row source.now S ∷ terminal_row sink.now T ∷ []
node_rows NoNodes = []

-- the text of the graph of a table: its lines with these nodes and node lines, and the arcs that its bundles list
abbrev pub graph_text : {B Arc : Type 0} → BundleFacts B Arc → Form → Kind → ℤ → NodeLines → List ((ℤ × ℤ) × B) → List ℕ
graph_text bundle form kind nodes lines table =
    text_of (graph_rows bundle.kind kind (listed_graph (bundle.listed form) nodes table) (node_rows lines))

-- the sink took the whole text, or has failed and took a prefix of it; or the text has 2^63 counted lines or more, and
-- nothing was put
abbrev pub Writes : {S : Type 0} → SinkFacts S → S → S → List ℕ → ℕ → Result (Unit {0}) Refusal → Type 0
Writes sink old new text count (Ok _) = HasPut sink old new [] text × count < 2 ^ 63
Writes sink old new text count (Err Write) = PutsPrefix sink old new text × count < 2 ^ 63
Writes sink old new text count (Err CountTooLarge) = (new ≡ old) × 2 ^ 63 ≤ count
Writes sink old new text count (Err _) = ⊥

-- the text of the canonical instance of I is written, or writing is refused
abbrev pub WritesCanon : {S : Type 0} → SinkFacts S → S → S → Form → Instance → Result (Unit {0}) Refusal → Type 0
WritesCanon sink old new form I result =
    (J : Instance) × IsCanonInstanceOf form J I × Writes sink old new (print J) (size_of J) result

-- on `Ok` whether the sink has failed did not change; on `Write` it has failed; on any other refusal nothing was put
abbrev pub SinkAfter : {S : Type 0} → SinkFacts S → S → S → Result (Unit {0}) Refusal → Type 0
SinkAfter sink old new (Ok _) = sink.has_failed new ≡ sink.has_failed old
SinkAfter sink old new (Err Write) = IsTrue (sink.has_failed new)
SinkAfter sink old new (Err _) = new ≡ old

-- a refusal that writing can give
abbrev pub IsOfWriting : Refusal → Type 0
IsOfWriting Write = Unit {0}
IsOfWriting CountTooLarge = Unit {0}
IsOfWriting _ = ⊥

-- the result of writing a text, given the result of putting it
abbrev pub written_as : Result (Unit {0}) SinkFault → Result (Unit {0}) Refusal
written_as (Ok x) = Ok x
written_as (Err f) = Err Write
