-- How many entries the arcs of a graph make, which is what must be kept of them (this project's profile).
use Rattle.std.specs.Prelude.{ℕ, ℤ, List, map, sum_by}
use Rattle.dn_arc_theory.specs.Entries.{distinct}
use Rattle.dn_arc_theory.specs.Pairs.{bundle, same_pair}

-- the sum of the entries over all ordered pairs that have arcs
abbrev pub graph_entries : {Arc : Type 0} → (List Arc → ℕ) → List ((ℤ × ℤ) × Arc) → ℕ
graph_entries entries arcs = sum_by (λ p. entries (bundle p arcs)) (distinct same_pair (map (λ a. a.0) arcs))
