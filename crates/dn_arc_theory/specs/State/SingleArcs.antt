-- The canonical arc that represents a least length of an `sp` graph (Ninth DIMACS Challenge, shortest-path formats) or
-- a total capacity of a `max` problem (First DIMACS Challenge, network flow format). That parallel arcs mean the
-- shortest is this project's profile.
use Rattle.std.specs.Prelude.{ℤ, List, [], ◌∷◌}
use Rattle.dn_arc_theory.specs.declared.arc.LengthArc.{LengthArc}
use Rattle.dn_arc_theory.specs.declared.arc.CapArc.{CapArc}

-- one arc of the least length
abbrev pub length_listed : ℤ → List LengthArc
length_listed w = record { length = w } ∷ []

-- one arc of the total capacity
abbrev pub cap_listed : ℤ → List CapArc
cap_listed z = record { cap = z } ∷ []
