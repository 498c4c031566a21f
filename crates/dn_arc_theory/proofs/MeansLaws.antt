-- The cost of units at costs of 64 bits: the bounds hold as units are added, the cost fits 128 bits, and the mean cost
-- per unit fits 64 bits.
use Rattle.std.proofs.Common.{◌≡◌, ℕ, suc, zero, ◌+◌, ◌-◌, ◌*◌, ◌^◌, ◌<◌, ◌≤◌, ◌/◌, ◌%◌, ap, arith, ℤ, pos, negsuc, ◌+ℤ◌, ◌*ℤ◌, ◌≤ℤ◌, ◌<ℤ◌, mul_comm, w64, FitsSigned}
use Rattle.std.proofs.lemmas.Int.{ints, by_lt_z}
use Rattle.std.proofs.Math.Nat.{div-lt_iff_lt-mul}
use Rattle.std.proofs.Math.IntN.{*ℤ_comm}
use Rattle.std.specs.Int.{int_div_euclid, int_rem_euclid, w128}
use Rattle.dn_arc_theory.specs.State.Means.{IsMean, IsFloor}
use Rattle.dn_arc_theory.proofs.ProductsLaws.{mul_mono}

parts : (a n : ℕ) → 0 < n → a ≡ a / n * n + a % n
parts a n h = omega (arith, mul_comm (a / n) n)

one_more : (q n : ℕ) → suc q * n ≡ q * n + n
one_more q n = grind arith

floor_is : (cost : ℤ) (n : ℕ) → 0 < n → IsFloor cost (pos n) (int_div_euclid cost (pos n)) (int_rem_euclid cost (pos n))
floor_is (pos a) n h = record { whole = ap pos (parts a n h); low = omega (arith, ints); high = omega (arith, ints) }
floor_is (negsuc a) n h = record {
  whole = omega (arith, ints, parts a n h, one_more (a / n) n);
  low = omega (arith, ints);
  high = omega (arith, ints);
}

-- the quotient and the remainder of a cost by its units
pub floor_of : (cost units each rest : ℤ) → pos 0 <ℤ units → each ≡ int_div_euclid cost units
    → rest ≡ int_rem_euclid cost units → IsFloor cost units each rest
floor_of cost (pos n) each rest h e f =
    rw f
    (rw e (floor_is cost n (omega (arith, ints))))
floor_of cost (negsuc n) each rest h e f = absurd (omega (arith, ints))

most : (l c k : ℕ) → c ≤ k → l * c ≤ l * k
most l c k h = grind arith

mean_more : (all : ℤ) (u l : ℕ) (cost : ℤ) → negsuc (2 ^ 63 - 1) ≤ℤ cost → cost ≤ℤ pos (2 ^ 63 - 1) → IsMean all (pos u)
    → IsMean (all +ℤ (pos l *ℤ cost)) (pos u +ℤ pos l)
mean_more all u l (pos c) h k m =
    let c_most : c ≤ 2 ^ 63 - 1 = omega (arith, ints) in
    let all_most : l * c ≤ l * (2 ^ 63 - 1) = most l c (2 ^ 63 - 1) c_most in
    record { least = omega (arith, ints); greatest = omega (arith, ints) }
mean_more all u l (negsuc c) h k m =
    let c_most : suc c ≤ 2 ^ 63 = omega (arith, ints) in
    let all_most : l * suc c ≤ l * 2 ^ 63 = most l (suc c) (2 ^ 63) c_most in
    record { least = omega (arith, ints); greatest = omega (arith, ints) }

-- the bounds hold after units at a cost of 64 bits are added
pub more_mean : (all low cost units : ℤ) → pos 0 ≤ℤ units → pos 0 ≤ℤ low → FitsSigned w64 cost → IsMean all units
    → IsMean (all +ℤ (low *ℤ cost)) (units +ℤ low)
more_mean all (pos l) cost (pos u) h k f m =
    mean_more all u l cost (omega (arith, ints, f.sfits)) (omega (arith, ints, f.sfits)) m
more_mean all (negsuc l) cost units h k f m = absurd (omega (arith, ints))
more_mean all (pos l) cost (negsuc u) h k f m = absurd (omega (arith, ints))

-- the cost per unit, rounded down, fits 64 bits
pub each_fits : (cost units each : ℤ) → pos 0 <ℤ units → IsMean cost units → each ≡ int_div_euclid cost units
    → FitsSigned w64 each
each_fits (pos a) (pos n) each h m e =
    let some : 0 < n = omega (arith, ints) in
    let below : a < 2 ^ 63 * n = omega (arith, ints) in
    rw e (record { sfits = (div-lt_iff_lt-mul some).1 below })
each_fits (negsuc a) (pos n) each h m e =
    let some : 0 < n = omega (arith, ints) in
    let below : a < 2 ^ 63 * n = omega (arith, ints) in
    rw e (record { sfits = (div-lt_iff_lt-mul some).1 below })
each_fits cost (negsuc n) each h m e = absurd (omega (arith, ints))

-- if some units cost one more, the greater cost fits 64 bits too
pub each_next : (cost units each rest : ℤ) → IsMean cost units → IsFloor cost units each rest → pos 0 <ℤ rest
    → each <ℤ pos (2 ^ 63 - 1)
each_next cost units each rest m f h =
    by_lt_z each (pos (2 ^ 63 - 1)) (λ lt. lt) (λ le.
    let g = mul_mono (pos (2 ^ 63 - 1)) each units le (omega (arith, ints)) in
    let e = *ℤ_comm units (pos (2 ^ 63 - 1)) in
    absurd (omega (arith, ints)))

-- the cost of the units fits 128 bits
pub cost_fits : (cost units : ℤ) → pos 0 ≤ℤ units → units ≤ℤ pos (2 ^ 63 - 1) → IsMean cost units → FitsSigned w128 cost
cost_fits (pos a) (pos n) h k m = record { sfits = omega (arith, ints) }
cost_fits (negsuc a) (pos n) h k m = record { sfits = omega (arith, ints) }
cost_fits cost (negsuc n) h k m = absurd (omega (arith, ints))

-- no units cost 0
pub none_cost : (cost units : ℤ) → units ≡ pos 0 → IsMean cost units → cost ≡ pos 0
none_cost cost units e m = omega (arith, ints, rw e at m)

-- a number from 0 to the greatest number of 64 bits fits 64 bits
pub fits_some : (z : ℤ) → pos 0 ≤ℤ z → z ≤ℤ pos (2 ^ 63 - 1) → FitsSigned w64 z
fits_some (pos n) h g = record { sfits = omega (arith, ints) }
fits_some (negsuc n) h g = absurd (omega (arith, ints))

pub fits_next : (z : ℤ) → FitsSigned w64 z → z <ℤ pos (2 ^ 63 - 1) → FitsSigned w64 (z +ℤ pos 1)
fits_next (pos n) f h = record { sfits = omega (arith, ints) }
fits_next (negsuc zero) f h = record { sfits = omega (arith, ints) }
fits_next (negsuc (suc n)) f h = let e : negsuc (suc n) +ℤ pos 1 ≡ negsuc n = omega (arith, ints) in
    rw e (record { sfits = omega (arith, f.sfits) })
