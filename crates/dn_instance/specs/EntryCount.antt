-- How many entries the items of a text make. The entries are what has to be kept of them (this project's profile).
use Rattle.std.specs.Prelude.{ℕ, List, length, filter_map, Option, Some, None}
use Rattle.dn_line.specs.declared.kind.Kind.{Kind}
use Rattle.dn_line.specs.declared.kind.Kind.TheVariants as Kinds
use Rattle.dn_line.specs.declared.line.Line.{Line}
use Rattle.dn_arc_theory.specs.Entries.{length_entries, cap_entries, cost_entries}
use Rattle.dn_table.specs.GraphEntries.{graph_entries}
use Rattle.dn_instance.specs.Items.{kind_known, arcs_of, length_arc_in, cap_arc_in, cost_arc_in, source_in, query_in, point_in, by_key}

-- the number of entries that these items make in a problem of this kind
abbrev pub entries_as : Kind → List Line → ℕ
entries_as Kinds.Min items = graph_entries cost_entries (arcs_of cost_arc_in items)
entries_as Kinds.Max items = graph_entries cap_entries (arcs_of cap_arc_in items)
entries_as Kinds.Sp items = graph_entries length_entries (arcs_of length_arc_in items)
entries_as Kinds.Ss items = length (filter_map source_in items)
entries_as Kinds.P2p items = length (filter_map query_in items)
entries_as Kinds.Co items = length (by_key (filter_map point_in items))

-- the number of entries that these items make under the declared kind, or 0 without a kind
abbrev pub entries_by : Option Kind → List Line → ℕ
entries_by None items = 0
entries_by (Some kind) items = entries_as kind items

-- the number of entries that the items so far make, or 0 before the problem line
abbrev pub entries_so_far : List Line → ℕ
entries_so_far items = entries_by (kind_known items) items
