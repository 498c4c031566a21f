-- Which arcs fit into a line.
use Rattle.std.specs.Prelude.{◌≤◌, length}
use Rattle.dn_arc_theory.specs.Kinds.{ArcKind}

-- each arc of the kind has at most three numbers
abbrev pub AreShort : {Arc : Type 0} → ArcKind Arc → Type 0
AreShort {Arc} kind = (a : Arc) → length (kind.numbers a) ≤ 3
