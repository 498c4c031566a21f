-- The sum, product, quotient and remainder that the code computes in 128 bits are those of integers.
use Rattle.std.proofs.Common.{refl, ◌≡◌, ◌-◌, ◌^◌, ap, ◌∙◌, arith, lit<, ℤ, pos, negsuc, ◌+ℤ◌, ◌*ℤ◌, ◌≤ℤ◌, ◌<ℤ◌, to_z, of_z, w64, FitsSigned}
use borrow.Author.Gap.{read_sfits}
use Rattle.std.proofs.lemmas.Int.{ints, to_z-of_z, fits_signed_mul}
use Rattle.std.specs.Int.{w128, int_div_euclid, int_rem_euclid, IsNonZero}
use Rattle.dn_arc_theory.specs.State.Means.{IsMean, IsFloor}
use Rattle.dn_arc_theory.proofs.MeansLaws.{floor_of, each_fits, more_mean, cost_fits}

-- a number of 64 bits does not change in a conversion to 128 bits
wide_fits : (x : ℤ) → FitsSigned w64 x → FitsSigned w128 x
wide_fits x f = record { sfits = omega (arith, f.sfits) }

pub narrowed : (x : ℤ) → FitsSigned w64 x → to_z w64 (of_z w64 (to_z w128 (of_z w128 x))) ≡ x
narrowed x f = simp (to_z-of_z, wide_fits)

pub widened : (x : ℤ) → FitsSigned w64 x → to_z w128 (of_z w128 (to_z w64 (of_z w64 x))) ≡ x
widened x f = simp (to_z-of_z, wide_fits)

-- the conversions of the code lose nothing
pub widens : (x : ℤ) → FitsSigned w128 (to_z w64 (of_z w64 x))
widens x = wide_fits _ (read_sfits w64 (of_z w64 x))

pub narrows : (x : ℤ) → FitsSigned w64 x → FitsSigned w64 (to_z w128 (of_z w128 x))
narrows x f = simp (to_z-of_z, wide_fits) f

-- a divisor above 0 is neither 0 nor -1
bits_some : (x : ℤ) → pos 0 <ℤ x → IsNonZero w128 x
bits_some (pos n) h = omega (arith, ints)
bits_some (negsuc n) h = absurd (omega (arith, ints))

bits_most : (x : ℤ) → FitsSigned w64 x → pos 0 <ℤ x → of_z w128 x ≡ 2 ^ 128 - 1 → ⊥
bits_most (pos n) f h e = omega (arith, f.sfits)
bits_most (negsuc n) f h e = omega (arith, ints)

pub divides : (units : ℤ) → FitsSigned w64 units → pos 0 <ℤ units
    → IsNonZero w128 (to_z w128 (of_z w128 (to_z w64 (of_z w64 units))))
    × (of_z w128 (to_z w128 (of_z w128 (to_z w64 (of_z w64 units)))) ≡ 2 ^ 128 - 1 → ⊥)
divides units f some = rw (widened units f) (bits_some units some, bits_most units f some)

pub rest_fits : (cost units each rest : ℤ) → FitsSigned w64 units → IsFloor cost units each rest → FitsSigned w64 rest
rest_fits cost (pos u) each (pos r) f h = record { sfits = omega (arith, ints, f.sfits) }
rest_fits cost (negsuc u) each (pos r) f h = absurd (omega (arith, ints))
rest_fits cost units each (negsuc r) f h = absurd (omega (arith, ints))

pub product_fits : (units cost : ℤ) → FitsSigned w64 units → FitsSigned w64 cost → FitsSigned w128 (units *ℤ cost)
product_fits units cost f g =
    fits_signed_mul w128 units cost (2 ^ 63) (2 ^ 63) (omega (arith, ints, f.sfits)) (omega (arith, ints, g.sfits))
    (lit< tt)

-- the cost with that of more units fits 128 bits
pub more_fits : (all units cost before : ℤ) → pos 0 ≤ℤ before → pos 0 ≤ℤ units → (before +ℤ units) ≤ℤ pos (2 ^ 63 - 1)
    → FitsSigned w64 cost → IsMean all before → FitsSigned w128 (all +ℤ (units *ℤ cost))
more_fits all units cost before h k r f m =
    cost_fits _ (before +ℤ units) (omega (arith, ints)) r (more_mean all units cost before h k f m)

-- the range of a cost of units, and of this cost with that of one more unit
pub mean_range : (cost units : ℤ) → pos 0 ≤ℤ units → units <ℤ pos (2 ^ 63 - 1) → IsMean cost units
    → (negsuc (2 ^ 126 - 1) ≤ℤ cost) × (cost ≤ℤ pos (2 ^ 126))
mean_range cost (pos u) h k m = (omega (arith, ints), omega (arith, ints))
mean_range cost (negsuc u) h k m = absurd (omega (arith, ints))

range_fits : (x : ℤ) → negsuc (2 ^ 127 - 1) ≤ℤ x → x ≤ℤ pos (2 ^ 127 - 1) → FitsSigned w128 x
range_fits (pos n) h k = record { sfits = omega (arith, ints) }
range_fits (negsuc n) h k = record { sfits = omega (arith, ints) }

with_unit_fits : (cost unit : ℤ) → negsuc (2 ^ 126 - 1) ≤ℤ cost → cost ≤ℤ pos (2 ^ 126) → FitsSigned w64 unit
    → FitsSigned w128 (cost +ℤ unit)
with_unit_fits cost (pos n) h k f =
    range_fits (cost +ℤ pos n) (omega (arith, ints, f.sfits)) (omega (arith, ints, f.sfits))
with_unit_fits cost (negsuc n) h k f =
    range_fits (cost +ℤ negsuc n) (omega (arith, ints, f.sfits)) (omega (arith, ints, f.sfits))

module _ (cost unit : ℤ) (h : negsuc (2 ^ 126 - 1) ≤ℤ cost) (k : cost ≤ℤ pos (2 ^ 126)) (f : FitsSigned w64 unit) where
  sum_same : to_z w128 (of_z w128 cost) +ℤ to_z w128 (of_z w128 (to_z w64 (of_z w64 unit))) ≡ cost +ℤ unit
  sum_same = rw (to_z-of_z w128 cost (range_fits cost (omega (arith, ints)) (omega (arith, ints))), widened unit f) refl

  pub unit_fits : FitsSigned w128 (to_z w128 (of_z w128 cost) +ℤ to_z w128 (of_z w128 (to_z w64 (of_z w64 unit))))
  unit_fits = rw sum_same (with_unit_fits cost unit h k f)

  pub unit_is : to_z w128
      (of_z w128 (to_z w128 (of_z w128 cost) +ℤ to_z w128 (of_z w128 (to_z w64 (of_z w64 unit))))) ≡ cost +ℤ unit
  unit_is = ap (λ z. to_z w128 (of_z w128 z)) sum_same ∙ to_z-of_z w128 (cost +ℤ unit) (with_unit_fits cost unit h k f)

-- the product that the code computes
module _ (units cost : ℤ) (fu : FitsSigned w64 units) (fc : FitsSigned w64 cost) where
  pub product_fit : FitsSigned w128
      (to_z w128 (of_z w128 (to_z w64 (of_z w64 units))) *ℤ to_z w128 (of_z w128 (to_z w64 (of_z w64 cost))))
  product_fit = rw (widened units fu, widened cost fc) (product_fits units cost fu fc)

  pub product_is : to_z w128
      (of_z w128
      (to_z w128 (of_z w128 (to_z w64 (of_z w64 units))) *ℤ to_z w128
      (of_z w128 (to_z w64 (of_z w64 cost))))) ≡ units *ℤ cost
  product_is = simp (to_z-of_z, wide_fits, product_fits)

-- the sum with a product that the code computes
module _ (all units cost : ℤ) (fa : FitsSigned w128 all) (fu : FitsSigned w64 units) (fc : FitsSigned w64 cost)
    (fs : FitsSigned w128 (all +ℤ (units *ℤ cost))) where
  pub operands_fit : FitsSigned w128
      (to_z w128 (of_z w128 all) +ℤ to_z w128
      (of_z w128
      (to_z w128 (of_z w128 (to_z w64 (of_z w64 units))) *ℤ to_z w128 (of_z w128 (to_z w64 (of_z w64 cost))))))
  operands_fit = simp (to_z-of_z, wide_fits, product_fits) fs

  pub sum_is : to_z w128
      (of_z w128
      (to_z w128 (of_z w128 all) +ℤ to_z w128
      (of_z w128
      (to_z w128 (of_z w128 (to_z w64 (of_z w64 units))) *ℤ to_z w128
      (of_z w128 (to_z w64 (of_z w64 cost))))))) ≡ all +ℤ (units *ℤ cost)
  sum_is = simp (to_z-of_z, wide_fits, product_fits)

-- the quotient and the remainder that the code computes
module _ (cost units each : ℤ) (fa : FitsSigned w128 cost) (fu : FitsSigned w64 units) (h : pos 0 <ℤ units)
    (m : IsMean cost units)
    (e : each ≡ int_div_euclid (to_z w128 (of_z w128 cost)) (to_z w128 (of_z w128 (to_z w64 (of_z w64 units))))) where
  each_is : each ≡ int_div_euclid cost units
  each_is = simp (to_z-of_z, wide_fits) at e

  each_fit : FitsSigned w64 each
  each_fit = each_fits cost units each h m each_is

  pub each_narrows : FitsSigned w64 (to_z w128 (of_z w128 each))
  each_narrows = narrows each each_fit

  module _ (rest : ℤ)
      (r : rest ≡ int_rem_euclid (to_z w128 (of_z w128 cost)) (to_z w128 (of_z w128 (to_z w64 (of_z w64 units))))) where
    floor : IsFloor cost units each rest
    floor = floor_of cost units each rest h each_is (simp (to_z-of_z, wide_fits) at r)

    rest_fit : FitsSigned w64 rest
    rest_fit = rest_fits cost units each rest fu floor

    pub rest_narrows : FitsSigned w64 (to_z w128 (of_z w128 rest))
    rest_narrows = narrows rest rest_fit

    pub floor_is : IsFloor cost units (to_z w64 (of_z w64 (to_z w128 (of_z w128 each))))
        (to_z w64 (of_z w64 (to_z w128 (of_z w128 rest))))
    floor_is = rw (narrowed each each_fit, narrowed rest rest_fit) floor

-- the quotient and the remainder that the code computes in 64 bits
module _ (cost units small each rest : ℤ) (fa : FitsSigned w128 cost) (fu : FitsSigned w64 units) (h : pos 0 <ℤ units)
    (m : IsMean cost units) (fits : FitsSigned w64 (to_z w128 (of_z w128 cost)))
    (is : small ≡ to_z w128 (of_z w128 cost))
    (e : each ≡ int_div_euclid (to_z w64 (of_z w64 small)) (to_z w64 (of_z w64 units)))
    (r : rest ≡ int_rem_euclid (to_z w64 (of_z w64 small)) (to_z w64 (of_z w64 units))) where
  small_is : to_z w64 (of_z w64 small) ≡ cost
  small_is = rw (is, to_z-of_z w64 (to_z w128 (of_z w128 cost)) fits) (to_z-of_z w128 cost fa)

  small_each : each ≡ int_div_euclid cost units
  small_each = rw (small_is, to_z-of_z w64 units fu) at e

  small_floor : IsFloor cost units each rest
  small_floor = floor_of cost units each rest h small_each (rw (small_is, to_z-of_z w64 units fu) at r)

  pub small_floor_is : IsFloor cost units (to_z w64 (of_z w64 each)) (to_z w64 (of_z w64 rest))
  small_floor_is =
      let fe = each_fits cost units each h m small_each in
      let fr = rest_fits cost units each rest fu small_floor in
      simp to_z-of_z small_floor
