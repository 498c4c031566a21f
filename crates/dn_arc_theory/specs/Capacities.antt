-- What parallel arcs of a `max` problem mean: their total capacity (First DIMACS Challenge, network flow format).
use Rattle.std.specs.Prelude.{ℤ, List, map}
use Rattle.dn_arc_theory.specs.Splits.{total}
use Rattle.dn_arc_theory.specs.declared.arc.CapArc.{CapArc}

-- the total capacity is the sum of the CAPs
abbrev pub total_cap : List CapArc → ℤ
total_cap arcs = total (map (λ a. a.cap) arcs)
