-- Graphs without their self-loops, and graphs that mean the same but for self-loops (this project's profile).
use Rattle.std.specs.Prelude.{◌≡◌, ◌≢◌, ◌↔◌, ℤ, pos, ◌≤ℤ◌, List, [], ◌∷◌, cond}
use Rattle.std.specs.List.{AllByRecursion}
use Rattle.std.specs.Ordering.{int_eq}
use Rattle.dn_arc_theory.specs.Meanings.{SameCurve}
use Rattle.dn_arc_theory.specs.Pairs.{bundle}
use Rattle.dn_arc_theory.specs.Splits.{LeastCost}
use Rattle.dn_arc_theory.specs.declared.arc.LengthArc.{LengthArc}
use Rattle.dn_arc_theory.specs.declared.arc.CostArc.{CostArc}
use Rattle.dn_instance.specs.Instances.{Graph}

-- the arcs whose tail is not their head
abbrev pub without_loops : {Arc : Type 0} → List ((ℤ × ℤ) × Arc) → List ((ℤ × ℤ) × Arc)
without_loops [] = []
without_loops (a ∷ arcs) = cond (int_eq a.0.0 a.0.1) (without_loops arcs) (a ∷ without_loops arcs)

-- the graph without its self-loops
abbrev pub loopless : {Arc : Type 0} → Graph Arc → Graph Arc
loopless G = record { nodes = G.nodes; arcs = without_loops G.arcs }

-- no self-loop has a negative length
abbrev pub HasNoNegativeLoop : Graph LengthArc → Type 0
HasNoNegativeLoop G = AllByRecursion (λ a. a.0.0 ≡ a.0.1 → pos 0 ≤ℤ a.1.length) G.arcs

-- the least cost over all amounts is the least cost of an amount such that no amount has a lower one
pub record LeastOverall (arcs : List CostArc) (k : ℤ) : Type 0 where
  pub amount : ℤ
  pub is : LeastCost arcs amount k
  pub least : (x j : ℤ) → LeastCost arcs x j → k ≤ℤ j

-- between any two different nodes, the arcs of two graphs mean the same; the self-loops of each node have the same
-- least cost over all amounts in both, or none in both
pub record SameButForLoops (G H : Graph CostArc) : Type 0 where
  pub bundles : (p : ℤ × ℤ) → p.0 ≢ p.1 → SameCurve (bundle p G.arcs) (bundle p H.arcs)
  pub loops : (v k : ℤ) → LeastOverall (bundle (v, v) G.arcs) k ↔ LeastOverall (bundle (v, v) H.arcs) k
