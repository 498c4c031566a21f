-- A `min` problem whose arcs all lead from node 1 to node 2.
use Rattle.std.specs.Prelude.{pos, List, []}
use Rattle.dn_arc_theory.specs.declared.arc.CostArc.{CostArc}
use Rattle.dn_instance.specs.Instances.{Instance, MinCostFlow}
use Rattle.dn_canon.specs.State.ListedArcs.{placed}

-- the problem with two nodes and these arcs from 1 to 2
abbrev pub on_one_pair : List CostArc → Instance
on_one_pair arcs = MinCostFlow [] (record { nodes = pos 2; arcs = placed (pos 1, pos 2) arcs })
