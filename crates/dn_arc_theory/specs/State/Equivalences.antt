-- The laws of a meaning of parallel arcs (this project's profile).
use Rattle.std.specs.Prelude.{List, ◌∷◌}

-- a meaning of lists of arcs is an equivalence that ignores their order, and adding one arc to both lists keeps it
pub record IsMeaning {Arc : Type 0} (Same : List Arc → List Arc → Type 0) : Type 0 where
  pub same_refl : (xs : List Arc) → Same xs xs
  pub same_sym : (xs ys : List Arc) → Same xs ys → Same ys xs
  pub same_trans : (xs ys zs : List Arc) → Same xs ys → Same ys zs → Same xs zs
  pub same_more : (a : Arc) (xs ys : List Arc) → Same xs ys → Same (a ∷ xs) (a ∷ ys)
  pub same_swap : (a b : Arc) (xs : List Arc) → Same (a ∷ b ∷ xs) (b ∷ a ∷ xs)
