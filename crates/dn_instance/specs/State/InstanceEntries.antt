-- How many entries an instance makes.
use Rattle.std.specs.Prelude.{ℕ, length}
use Rattle.dn_arc_theory.specs.Entries.{length_entries, cap_entries, cost_entries}
use Rattle.dn_table.specs.GraphEntries.{graph_entries}
use Rattle.dn_instance.specs.Instances.{Instance, MinCostFlow, MaxFlow, ShortestPaths, Sources, Queries, Coordinates}

-- a graph makes the entries of its arcs; a companion makes one entry for each item or point
abbrev pub entries_of : Instance → ℕ
entries_of (MinCostFlow supplies graph) = graph_entries cost_entries graph.arcs
entries_of (MaxFlow source sink graph) = graph_entries cap_entries graph.arcs
entries_of (ShortestPaths graph) = graph_entries length_entries graph.arcs
entries_of (Sources ids) = length ids
entries_of (Queries pairs) = length pairs
entries_of (Coordinates points) = length points
