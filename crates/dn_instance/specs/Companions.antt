-- Whether a companion fits a graph (this project's profile).
use Rattle.std.specs.Prelude.{ℕ, ℤ, List, [], ◌∷◌, int_lt, Option, Some, None, Result, Ok, Err, codes}
use Rattle.std.specs.List.{find, flat_map}
use Rattle.std.specs.Map.{keys_of}
use Rattle.dn_instance.specs.Instances.{Instance, ShortestPaths, Sources, Queries, Coordinates}
use Rattle.dn_instance.specs.declared.companion.CompanionFault.{CompanionFault}
use Rattle.dn_instance.specs.declared.companion.CompanionFault.TheVariants.{NotKinds, NotInGraph}

-- the number of the fault of a companion
abbrev pub fault_number : CompanionFault → ℕ
fault_number (NotInGraph id) = 35
fault_number NotKinds = 36

-- the name of the fault of a companion
abbrev pub fault_name : CompanionFault → List ℕ
fault_name (NotInGraph id) = codes "NotInGraph"
fault_name NotKinds = codes "NotKinds"

-- the two nodes of a query, in the order of its line
abbrev pub both_nodes : ℤ × ℤ → List ℤ
both_nodes p = p.0 ∷ p.1 ∷ []

-- the fault `NotInGraph` with this node if there is one, and success otherwise
abbrev pub unless_found : Option ℤ → Result (Unit {0}) CompanionFault
unless_found None = Ok tt
unless_found (Some id) = Err (NotInGraph id)

-- the fault `NotInGraph` with the first of the nodes that is above NODES, and success if there is none
abbrev pub within : ℤ → List ℤ → Result (Unit {0}) CompanionFault
within nodes ids = unless_found (find (int_lt nodes) ids)

-- whether an instance is a companion that names only nodes up to `nodes`. If it is no companion, the fault is
-- `NotKinds`. Otherwise the fault names the first node above `nodes`: in file order, where a query's first node comes
-- before its second, and of points by ascending ID
abbrev pub nodes_fit : ℤ → Instance → Result (Unit {0}) CompanionFault
nodes_fit nodes (Sources ids) = within nodes ids
nodes_fit nodes (Queries pairs) = within nodes (flat_map both_nodes pairs)
nodes_fit nodes (Coordinates points) = within nodes (keys_of points)
nodes_fit nodes _ = Err NotKinds

-- whether I is an `sp` graph and J a companion that names only nodes of I, or why not
abbrev pub companion_fit : Instance → Instance → Result (Unit {0}) CompanionFault
companion_fit (ShortestPaths graph) J = nodes_fit graph.nodes J
companion_fit _ J = Err NotKinds
