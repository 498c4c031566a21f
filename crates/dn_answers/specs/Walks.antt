-- Walks and distances in an `sp` graph (Ahuja, Magnanti and Orlin, Network Flows: directed walks, and the length of the
-- shortest; Ninth DIMACS Challenge, shortest-path formats: the graph).
use Rattle.std.specs.Prelude.{◌≡◌, ◌⊎◌, ℤ, pos, ◌+ℤ◌, ◌≤ℤ◌, List, [], ◌∷◌, map}
use Rattle.std.specs.List.{AllByRecursion}
use Rattle.dn_arc_theory.specs.declared.arc.LengthArc.{LengthArc}
use Rattle.dn_instance.specs.Instances.{Graph}
use Rattle.dn_instance.specs.Validity.{IsNode}

-- the arc is one of these arcs
abbrev pub IsAmong : (ℤ × ℤ) × LengthArc → List ((ℤ × ℤ) × LengthArc) → Type 0
IsAmong a [] = ⊥
IsAmong a (b ∷ arcs) = (a ≡ b) ⊎ IsAmong a arcs

-- the arcs lead from u to v: the first tail is u, every other tail is the head of the arc before it, and the last head
-- is v; no arcs at all lead from u to u
abbrev pub Leads : ℤ → List ((ℤ × ℤ) × LengthArc) → ℤ → Type 0
Leads u [] v = u ≡ v
Leads u (a ∷ walk) v = (a.0.0 ≡ u) × Leads a.0.1 walk v

-- a walk from the node u to v is a list of arcs of the graph that lead from u to v; it may repeat nodes and arcs
pub record IsWalk (G : Graph LengthArc) (u v : ℤ) (walk : List ((ℤ × ℤ) × LengthArc)) : Type 0 where
  pub start : IsNode G.nodes u
  pub arcs : AllByRecursion (λ a. IsAmong a G.arcs) walk
  pub leads : Leads u walk v

-- the length of a walk is the sum of the LENGTHs of its arcs
abbrev pub walk_length : List ((ℤ × ℤ) × LengthArc) → ℤ
walk_length [] = pos 0
walk_length (a ∷ walk) = a.1.length +ℤ walk_length walk

-- some walk from u to v is at most this long
pub record HasWalkWithin (G : Graph LengthArc) (u v bound : ℤ) : Type 0 where
  pub walk : List ((ℤ × ℤ) × LengthArc)
  pub is : IsWalk G u v walk
  pub within : walk_length walk ≤ℤ bound

-- the distance from u to v is the length of a walk from u to v such that no walk from u to v is shorter; there is none
-- if no walk leads from u to v, or if cycles of negative length make walks shorter than every bound
pub record IsDistance (G : Graph LengthArc) (u v d : ℤ) : Type 0 where
  pub walk : List ((ℤ × ℤ) × LengthArc)
  pub is : IsWalk G u v walk
  pub length : walk_length walk ≡ d
  pub least : (other : List ((ℤ × ℤ) × LengthArc)) → IsWalk G u v other → d ≤ℤ walk_length other

-- H has a walk from u to v along the same ordered pairs as this walk, and it is no longer
pub record HasMatchingWalk (H : Graph LengthArc) (u v : ℤ) (walk : List ((ℤ × ℤ) × LengthArc)) : Type 0 where
  pub other : List ((ℤ × ℤ) × LengthArc)
  pub is : IsWalk H u v other
  pub pairs : map (λ a. a.0) other ≡ map (λ a. a.0) walk
  pub length : walk_length other ≤ℤ walk_length walk
