-- Small problems whose answers are worked out (this project's profile).
use Rattle.std.specs.Prelude.{ℤ, pos, negsuc, List, [], ◌∷◌}
use Rattle.dn_arc_theory.specs.declared.arc.LengthArc.{LengthArc}
use Rattle.dn_arc_theory.specs.declared.arc.CapArc.{CapArc}
use Rattle.dn_arc_theory.specs.declared.arc.CostArc.{CostArc}
use Rattle.dn_instance.specs.Instances.{Graph}

-- an arc of an `sp` graph, by SRC, DST and LENGTH
abbrev pub length_arc_at : ℤ → ℤ → ℤ → (ℤ × ℤ) × LengthArc
length_arc_at tail head w = ((tail, head), record { length = w })

-- an arc of a `max` graph, by SRC, DST and CAP
abbrev pub cap_arc_at : ℤ → ℤ → ℤ → (ℤ × ℤ) × CapArc
cap_arc_at tail head c = ((tail, head), record { cap = c })

-- an arc of a `min` graph, by SRC, DST, LOW, CAP and COST
abbrev pub cost_arc_at : ℤ → ℤ → ℤ → ℤ → ℤ → (ℤ × ℤ) × CostArc
cost_arc_at tail head l c k = ((tail, head), record { low = l; cap = c; cost = k })

-- `sp`: two arcs from 1 to 2, one from 2 to 3, and one from 1 to 3
abbrev pub three_lengths : Graph LengthArc
three_lengths = record {
  nodes = pos 3;
  arcs = length_arc_at (pos 1) (pos 2) (pos 7) ∷ length_arc_at (pos 1) (pos 2) (pos 4)
      ∷ length_arc_at (pos 2) (pos 3) (pos 1) ∷ length_arc_at (pos 1) (pos 3) (pos 9) ∷ [];
}

-- `max`: arcs from 1 to 2, from 2 to 3, and from 1 to 3
abbrev pub three_caps : Graph CapArc
three_caps = record {
  nodes = pos 3;
  arcs = cap_arc_at (pos 1) (pos 2) (pos 3) ∷ cap_arc_at (pos 2) (pos 3) (pos 2)
      ∷ cap_arc_at (pos 1) (pos 3) (pos 1) ∷ [];
}

-- `min`: arcs from 1 to 2, from 2 to 3, and from 1 to 3
abbrev pub three_costs : Graph CostArc
three_costs = record {
  nodes = pos 3;
  arcs = cost_arc_at (pos 1) (pos 2) (pos 1) (pos 3) (pos 2) ∷ cost_arc_at (pos 2) (pos 3) (pos 0) (pos 2) (pos 1)
      ∷ cost_arc_at (pos 1) (pos 3) (pos 0) (pos 5) (pos 4) ∷ [];
}

-- three units from 1 to 3
abbrev pub three_units : List (ℤ × ℤ)
three_units = (pos 1, pos 3) ∷ (pos 3, negsuc 2) ∷ []

-- `sp`: a long arc from 1 to 2, and a short one back
abbrev pub there_and_back : Graph LengthArc
there_and_back = record {
  nodes = pos 2;
  arcs = length_arc_at (pos 1) (pos 2) (pos 5) ∷ length_arc_at (pos 2) (pos 1) (pos 1) ∷ [];
}

-- `sp`: a cycle of the length -1
abbrev pub negative_cycle : Graph LengthArc
negative_cycle = record {
  nodes = pos 2;
  arcs = length_arc_at (pos 1) (pos 2) (pos 1) ∷ length_arc_at (pos 2) (pos 1) (negsuc 1) ∷ [];
}

-- `max`: most of what leaves 1 for 2 can only return
abbrev pub returning_caps : Graph CapArc
returning_caps = record {
  nodes = pos 3;
  arcs = cap_arc_at (pos 1) (pos 2) (pos 3) ∷ cap_arc_at (pos 2) (pos 1) (pos 2)
      ∷ cap_arc_at (pos 2) (pos 3) (pos 1) ∷ [];
}

-- `min`: two arcs from 1 to 2, of which the expensive one has LOW 1
abbrev pub forced_costs : Graph CostArc
forced_costs = record {
  nodes = pos 2;
  arcs = cost_arc_at (pos 1) (pos 2) (pos 0) (pos 2) (pos 1)
      ∷ cost_arc_at (pos 1) (pos 2) (pos 1) (pos 2) (pos 5) ∷ [];
}

-- two units from 1 to 2
abbrev pub two_units : List (ℤ × ℤ)
two_units = (pos 1, pos 2) ∷ (pos 2, negsuc 1) ∷ []

-- five units from 1 to 2
abbrev pub five_units : List (ℤ × ℤ)
five_units = (pos 1, pos 5) ∷ (pos 2, negsuc 4) ∷ []

-- two units leave 1, and one is to reach 2
abbrev pub unbalanced : List (ℤ × ℤ)
unbalanced = (pos 1, pos 2) ∷ (pos 2, negsuc 0) ∷ []
