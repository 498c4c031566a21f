-- What parallel arcs of an `sp` graph mean: their least length (Ninth DIMACS Challenge, shortest-path formats; that
-- parallel arcs mean the shortest is this project's profile).
use Rattle.std.specs.Prelude.{◌≡◌, ℤ, ◌≤ℤ◌, List, [], ◌∷◌, ◌⊎◌}
use Rattle.std.specs.List.{AllByRecursion}
use Rattle.dn_arc_theory.specs.declared.arc.LengthArc.{LengthArc}

-- an arc of the list has this length
abbrev pub HasLength : List LengthArc → ℤ → Type 0
HasLength [] w = ⊥
HasLength (a ∷ rest) w = (a.length ≡ w) ⊎ HasLength rest w

-- the least length is the length of an arc such that no arc is shorter
pub record LeastLength (arcs : List LengthArc) (w : ℤ) : Type 0 where
  pub has : HasLength arcs w
  pub least : AllByRecursion (λ (a : LengthArc). w ≤ℤ a.length) arcs
