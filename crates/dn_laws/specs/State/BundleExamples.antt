-- A worked bundle of a `min` problem, and lists that are canonical in one form or in none.
use Rattle.std.specs.Prelude.{ℤ, pos, List, [], ◌∷◌}
use Rattle.dn_arc_theory.specs.declared.arc.CostArc.{CostArc}

-- the arc with this LOW, CAP and COST
abbrev pub arc : ℤ → ℤ → ℤ → CostArc
arc l u c = record { low = l; cap = u; cost = c }

-- three arcs with two forced units, and free capacity for seven units
abbrev pub worked : List CostArc
worked = arc (pos 1) (pos 3) (pos 0) ∷ arc (pos 1) (pos 2) (pos 3) ∷ arc (pos 0) (pos 4) (pos 1) ∷ []

-- the canonical arcs of the worked bundle in form 1
abbrev pub worked_one : List CostArc
worked_one =
    arc (pos 1) (pos 1) (pos 1) ∷ arc (pos 1) (pos 1) (pos 2) ∷ arc (pos 0) (pos 2) (pos 0)
    ∷ arc (pos 0) (pos 4) (pos 1) ∷ arc (pos 0) (pos 1) (pos 3) ∷ []

-- the canonical arcs of the worked bundle in form 2
abbrev pub worked_two : List CostArc
worked_two =
    arc (pos 0) (pos 2) (pos 0) ∷ arc (pos 1) (pos 5) (pos 1) ∷ arc (pos 1) (pos 1) (pos 2)
    ∷ arc (pos 0) (pos 1) (pos 3) ∷ []

-- arcs that are canonical in form 2 only
abbrev pub canon_in_two_alone : List CostArc
canon_in_two_alone = arc (pos 1) (pos 2) (pos 0) ∷ arc (pos 1) (pos 3) (pos 1) ∷ []

-- arcs with LOWs above 0 at costs that are too far apart for either form
abbrev pub apart : List CostArc
apart = arc (pos 1) (pos 1) (pos 0) ∷ arc (pos 1) (pos 1) (pos 4) ∷ []
