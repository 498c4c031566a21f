-- Ordered pairs of nodes, and their parallel arcs (First and Ninth DIMACS Challenge: an arc leads from its tail SRC to
-- its head DST).
use Rattle.std.specs.Prelude.{ℤ, List, [], ◌∷◌, Bool, cond}
use Rattle.std.specs.Ordering.{int_cmp, is_le, ordering_then}
use Rattle.std.specs.BTreeMap.{is_at}
use Rattle.std.specs.declared.cmp.Ordering.{Ordering}

-- pairs are ordered by tail, and then by head
abbrev pub pair_cmp : ℤ × ℤ → ℤ × ℤ → Ordering
pair_cmp p q = ordering_then (int_cmp p.0 q.0) (int_cmp p.1 q.1)

-- p is not above q
abbrev pub pair_le : ℤ × ℤ → ℤ × ℤ → Bool
pair_le p q = is_le (pair_cmp p q)

-- p and q are the same ordered pair
abbrev pub same_pair : ℤ × ℤ → ℤ × ℤ → Bool
same_pair p = is_at (pair_cmp p)

-- the bundle of a pair is the list of its arcs, in the order in which they occur
abbrev pub bundle : {Arc : Type 0} → ℤ × ℤ → List ((ℤ × ℤ) × Arc) → List Arc
bundle p [] = []
bundle p (a ∷ rest) = cond (same_pair p a.0) (a.1 ∷ bundle p rest) (bundle p rest)
