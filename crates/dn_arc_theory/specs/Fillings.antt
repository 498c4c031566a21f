-- The forced units of parallel arcs, which every split sends, and their cost (this project's profile).
use Rattle.std.specs.Prelude.{ℤ, pos, ◌+ℤ◌, ◌*ℤ◌, List, [], ◌∷◌}
use Rattle.dn_arc_theory.specs.declared.arc.CostArc.{CostArc}

-- L is the sum of the LOWs
abbrev pub forced_units : List CostArc → ℤ
forced_units [] = pos 0
forced_units (a ∷ rest) = a.low +ℤ forced_units rest

-- F is the sum of LOW times COST
abbrev pub forced_cost : List CostArc → ℤ
forced_cost [] = pos 0
forced_cost (a ∷ rest) = (a.cost *ℤ a.low) +ℤ forced_cost rest
