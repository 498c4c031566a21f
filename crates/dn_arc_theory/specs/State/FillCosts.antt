-- The cost of an amount that is sent as the forced units first, and then through the free capacities in the order of
-- the arcs.
use Rattle.std.specs.Prelude.{◌≡◌, ℤ, pos, ◌+ℤ◌, ◌-ℤ◌, ◌*ℤ◌, ◌≤ℤ◌, List, [], ◌∷◌, cond, int_lt}
use Rattle.dn_arc_theory.specs.declared.arc.CostArc.{CostArc}
use Rattle.dn_arc_theory.specs.Fillings.{forced_cost, forced_units}

-- the free capacity of an arc is CAP minus LOW
abbrev pub room : CostArc → ℤ
room a = a.cap -ℤ a.low

-- the sum of the free capacities
abbrev pub free_room : List CostArc → ℤ
free_room [] = pos 0
free_room (a ∷ rest) = room a +ℤ free_room rest

-- the cost of y units that fill the free capacities in the order of the arcs
abbrev pub fill_cost : List CostArc → ℤ → ℤ
fill_cost [] y = pos 0
fill_cost (a ∷ rest) y = cond (int_lt (room a) y) ((a.cost *ℤ room a) +ℤ fill_cost rest (y -ℤ room a)) (a.cost *ℤ y)

-- k is F plus the cost of x - L units that fill the free capacities in the order of the arcs
pub record IsFilling (arcs : List CostArc) (x k : ℤ) : Type 0 where
  pub low : forced_units arcs ≤ℤ x
  pub high : (x -ℤ forced_units arcs) ≤ℤ free_room arcs
  pub cost : k ≡ forced_cost arcs +ℤ fill_cost arcs (x -ℤ forced_units arcs)
