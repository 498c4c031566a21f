-- Worked instances.
use Rattle.std.specs.Prelude.{ℤ, pos, negsuc, List, [], ◌∷◌, Option}
use Rattle.dn_arc_theory.specs.declared.arc.LengthArc.{LengthArc}
use Rattle.dn_arc_theory.specs.declared.arc.CapArc.{CapArc}
use Rattle.dn_arc_theory.specs.declared.arc.CostArc.{CostArc}
use Rattle.dn_arc_theory.specs.declared.difference.How.TheVariants.{Lengths, Costs}
use Rattle.dn_instance.specs.Instances.{Instance, MinCostFlow, MaxFlow, ShortestPaths}
use Rattle.dn_instance.specs.declared.verdict.Verdict.{Verdict}
use Rattle.dn_instance.specs.declared.verdict.Verdict.TheVariants.{Pair}

-- an arc from u to v by its length or its CAP, and one from node 1 to node 2 by LOW, CAP and COST
abbrev pub length_arc_at : ℤ → ℤ → ℤ → (ℤ × ℤ) × LengthArc
length_arc_at u v w = ((u, v), record { length = w })

abbrev pub cap_arc_at : ℤ → ℤ → ℤ → (ℤ × ℤ) × CapArc
cap_arc_at u v c = ((u, v), record { cap = c })

abbrev pub cost_arc_at : ℤ → ℤ → ℤ → (ℤ × ℤ) × CostArc
cost_arc_at l c k = ((pos 1, pos 2), record { low = l; cap = c; cost = k })

-- problems with these arcs or supplies: three nodes each, and two nodes in `with_costs`
abbrev pub with_lengths : List ((ℤ × ℤ) × LengthArc) → Instance
with_lengths arcs = ShortestPaths (record { nodes = pos 3; arcs = arcs })

abbrev pub flow_from : ℤ → ℤ → List ((ℤ × ℤ) × CapArc) → Instance
flow_from source sink arcs = MaxFlow source sink (record { nodes = pos 3; arcs = arcs })

abbrev pub supplied : List (ℤ × ℤ) → Instance
supplied supplies = MinCostFlow supplies (record { nodes = pos 3; arcs = [] })

abbrev pub with_costs : List ((ℤ × ℤ) × CostArc) → Instance
with_costs arcs = MinCostFlow [] (record { nodes = pos 2; arcs = arcs })

-- the lengths on both sides at a pair, and the costs of an amount on both sides from node 1 to node 2
abbrev pub lengths_at : ℤ → ℤ → Option ℤ → Option ℤ → Verdict
lengths_at src dst left right = Pair src dst (Lengths left right)

abbrev pub costs_of : ℤ → Option ℤ → Option ℤ → Verdict
costs_of amount left right = Pair (pos 1) (pos 2) (Costs (record { amount = amount; left = left; right = right }))

-- parallel arcs, arcs in both directions, a self-loop and a negative length
abbrev pub worked_lengths : List ((ℤ × ℤ) × LengthArc)
worked_lengths =
    length_arc_at (pos 1) (pos 2) (pos 7) ∷ length_arc_at (pos 1) (pos 2) (pos 3)
    ∷ length_arc_at (pos 2) (pos 1) (pos 4) ∷ length_arc_at (pos 1) (pos 2) (pos 3)
    ∷ length_arc_at (pos 2) (pos 2) (pos 0) ∷ length_arc_at (pos 3) (pos 1) (negsuc 4) ∷ []

-- arcs that mean the same as these without the self-loop
abbrev pub without_loop : List ((ℤ × ℤ) × LengthArc)
without_loop =
    length_arc_at (pos 1) (pos 2) (pos 3) ∷ length_arc_at (pos 2) (pos 1) (pos 4)
    ∷ length_arc_at (pos 3) (pos 1) (negsuc 4) ∷ []

-- an arc of capacity 0, and two parallel arcs
abbrev pub worked_capacities : List ((ℤ × ℤ) × CapArc)
worked_capacities =
    cap_arc_at (pos 2) (pos 3) (pos 0) ∷ cap_arc_at (pos 1) (pos 2) (pos 4)
    ∷ cap_arc_at (pos 1) (pos 3) (pos 2) ∷ cap_arc_at (pos 1) (pos 2) (pos 5) ∷ []

-- parallel arcs and an arc back, and arcs with forced units of costs 2 and -7 and free capacity at the costs 2 and 5
abbrev pub some_lengths : List ((ℤ × ℤ) × LengthArc)
some_lengths =
    length_arc_at (pos 2) (pos 1) (pos 4) ∷ length_arc_at (pos 1) (pos 2) (pos 7)
    ∷ length_arc_at (pos 1) (pos 2) (pos 3) ∷ []

abbrev pub some_costs : List ((ℤ × ℤ) × CostArc)
some_costs =
    cost_arc_at (pos 1) (pos 3) (pos 2) ∷ cost_arc_at (pos 0) (pos 2) (pos 5)
    ∷ cost_arc_at (pos 2) (pos 2) (negsuc 6) ∷ []
