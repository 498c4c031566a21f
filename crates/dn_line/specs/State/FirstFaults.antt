-- The first fault as a relation. Which lines have faults is of the formats; the numbers of the faults and the order of
-- checking are this project's profile.
use Rattle.std.specs.Prelude.{List, ◌∷◌, ◌++◌, true, false, ◌≡◌}
use Rattle.std.specs.List.{All}
use Rattle.dn_line.specs.declared.code.Code.{Code}
use Rattle.dn_line.specs.Faults.{Test}

-- the test of this fault is among the tests and holds, and all tests before it fail
abbrev pub Found : List Test → Code → Type 0
Found ts c =
    (before : List Test) × (after : List Test) × (ts ≡ before ++ (c, true) ∷ after) × All (λ t. t.1 ≡ false) before
