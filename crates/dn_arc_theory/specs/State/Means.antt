-- The total cost of units, which has 128 bits, and their mean cost per unit, which has 64 bits.
use Rattle.std.specs.Prelude.{◌≡◌, ◌-◌, ◌^◌, ℤ, pos, negsuc, ◌+ℤ◌, ◌*ℤ◌, ◌≤ℤ◌, ◌<ℤ◌}

-- the mean cost per unit is between the least and the greatest number of 64 bits
pub record IsMean (cost units : ℤ) : Type 0 where
  pub least : (units *ℤ negsuc (2 ^ 63 - 1)) ≤ℤ cost
  pub greatest : cost ≤ℤ (units *ℤ pos (2 ^ 63 - 1))

-- the cost per unit, rounded down, and how many units cost one more
pub record IsFloor (cost units each rest : ℤ) : Type 0 where
  pub whole : cost ≡ (each *ℤ units) +ℤ rest
  pub low : pos 0 ≤ℤ rest
  pub high : rest <ℤ units
