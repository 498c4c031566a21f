-- The numbers of a cost curve.
use Rattle.std.specs.Prelude.{ℤ, List}
use Rattle.dn_arc_theory.specs.State.CurveListed.{IsSound}

-- the forced units and their cost, the total capacity, and the free capacity by ascending cost
pub record CurveNumbers : Type 0 where
  pub units : ℤ
  pub cost : ℤ
  pub total : ℤ
  pub steps : List (ℤ × ℤ)
  pub sound : IsSound units cost total steps
