-- The ends of the lines of faults, of parts that are already bytes.
use Rattle.std.specs.Prelude.{ℕ, List, ◌++◌, codes}

-- a colon, the number and the name of a fault, and the end of the line
abbrev pub numbered : List ℕ → List ℕ → List ℕ → List ℕ
numbered number name end = codes ": " ++ (number ++ (codes " " ++ (name ++ end)))

-- a node, and an LF
abbrev pub node_end : List ℕ → List ℕ
node_end id = codes " " ++ (id ++ codes "\n")
