-- The canonical arcs of a cost curve, given its forced units, their cost, and its free capacity by ascending cost.
use Rattle.std.specs.Prelude.{◌≡◌, ◌-◌, ◌^◌, ℤ, pos, ◌+ℤ◌, ◌-ℤ◌, ◌≤ℤ◌, List, [], ◌∷◌, ◌++◌, Option, Some, None, map, cond, int_lt, FitsSigned, ◌<ℤ◌, Bool, not}
use Rattle.std.specs.Int.{w64, int_div_euclid, int_rem_euclid}
use Rattle.std.specs.List.{AllByRecursion}
use Rattle.dn_arc_theory.specs.declared.arc.CostArc.{CostArc}
use Rattle.dn_arc_theory.specs.declared.arc.Form.{Form}
use Rattle.dn_arc_theory.specs.declared.arc.Form.TheVariants.{One, Two}
use Rattle.dn_arc_theory.specs.State.Means.{IsMean}
use Rattle.dn_arc_theory.specs.State.Steps.{AreSteps, steps_room}
use Rattle.dn_arc_theory.specs.declared.fixed.Fixed.{Fixed}
use Rattle.dn_arc_theory.specs.declared.fixed.Fixed.TheVariants as Fixeds
use Rattle.dn_arc_theory.specs.Canonical.{has_low}

-- a fixed arc, a free arc, and the free arc of a breakpoint
abbrev pub fixed_arc : ℤ → ℤ → CostArc
fixed_arc units cost = record { low = units; cap = units; cost = cost }

abbrev pub free_arc : ℤ → ℤ → CostArc
free_arc cost room = record { low = pos 0; cap = room; cost = cost }

abbrev pub step_arc : ℤ × ℤ → CostArc
step_arc step = free_arc step.0 step.1

-- the fixed arcs of units that cost the same each, except that `rest` of them cost one more
abbrev pub spread_arcs : ℤ → ℤ → ℤ → List CostArc
spread_arcs units each rest =
    cond (int_lt (pos 0) rest) (fixed_arc (units -ℤ rest) each ∷ fixed_arc rest (each +ℤ pos 1) ∷ [])
    (fixed_arc units each ∷ [])

-- the fixed arcs of these units, which together have this cost
abbrev pub fixed_arcs : ℤ → ℤ → List CostArc
fixed_arcs units cost =
    cond (int_lt (pos 0) units) (spread_arcs units (int_div_euclid cost units) (int_rem_euclid cost units)) []

-- the arcs with a fixed arc inserted by COST; an arc of the same COST is merged with it
abbrev pub join_arc : CostArc → List CostArc → List CostArc
join_arc a [] = a ∷ []
join_arc a (b ∷ rest) =
    cond (int_lt a.cost b.cost) (a ∷ b ∷ rest)
    (cond (int_lt b.cost a.cost) (b ∷ join_arc a rest)
    (record { low = a.low +ℤ b.low; cap = a.cap +ℤ b.cap; cost = b.cost } ∷ rest))

-- the first arc after a fixed arc has been inserted by COST, given the first arc before
abbrev pub joined_head : CostArc → Option CostArc → CostArc
joined_head a None = a
joined_head a (Some b) =
    cond (int_lt b.cost a.cost) b
    (cond (int_lt a.cost b.cost) a (record { low = a.low +ℤ b.low; cap = a.cap +ℤ b.cap; cost = b.cost }))

abbrev pub join_arcs : List CostArc → List CostArc → List CostArc
join_arcs [] arcs = arcs
join_arcs (a ∷ rest) arcs = join_arc a (join_arcs rest arcs)

-- the canonical arcs in this form
abbrev pub listed : Form → ℤ → ℤ → List (ℤ × ℤ) → List CostArc
listed One units cost steps = fixed_arcs units cost ++ map step_arc steps
listed Two units cost steps = join_arcs (fixed_arcs units cost) (map step_arc steps)

-- a curve is valid: the units are at least 0 and their cost per unit fits 64 bits; the total, at most 2^63 - 1, is the
-- units plus the free capacity; the breakpoints are valid, and their costs fit 64 bits
pub record IsSound (units cost total : ℤ) (steps : List (ℤ × ℤ)) : Type 0 where
  pub some : pos 0 ≤ℤ units
  pub mean : IsMean cost units
  pub whole : total ≡ units +ℤ steps_room steps
  pub most : total ≤ℤ pos (2 ^ 63 - 1)
  pub ascending : AreSteps steps
  pub fit : AllByRecursion (λ (step : ℤ × ℤ). FitsSigned w64 step.0) steps

-- the fixed arcs as a list
abbrev pub fixed_list : Fixed → List CostArc
fixed_list Fixeds.Zero = []
fixed_list (Fixeds.One units cost) = fixed_arc units cost ∷ []
fixed_list (Fixeds.Two units cost above) = fixed_arc units cost ∷ fixed_arc above (cost +ℤ pos 1) ∷ []

-- if there are two fixed arcs, the greater cost fits 64 bits
abbrev pub HasNext : Fixed → Type 0
HasNext Fixeds.Zero = Unit {0}
HasNext (Fixeds.One units cost) = Unit {0}
HasNext (Fixeds.Two units cost above) = cost <ℤ pos (2 ^ 63 - 1)

-- the LOW of the arc is not above 0
abbrev pub is_free : CostArc → Bool
is_free a = not (has_low a)
