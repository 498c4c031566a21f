-- The fixed arcs that the code makes from the quotient and the remainder of the forced cost are those of the
-- definition.
use Rattle.std.proofs.Common.{◌≡◌, ℤ, pos, negsuc, ◌+ℤ◌, ◌-ℤ◌, ◌≤ℤ◌, ◌<ℤ◌, [], ◌∷◌, ◌-◌, ◌^◌, sym, ap, ◌∙◌, arith, w64, to_z, of_z, FitsSigned}
use Rattle.std.proofs.lemmas.Int.{ints, to_z-of_z}
use Rattle.dn_arc_theory.specs.State.Means.{IsMean, IsFloor}
use Rattle.dn_arc_theory.proofs.MeansLaws.{fits_some, each_next}
use Rattle.dn_arc_theory.specs.State.CurveListed.{fixed_arc, spread_arcs, fixed_arcs}
use Rattle.dn_arc_theory.proofs.FormOneLaws.{fixed_same}
use Rattle.dn_arc_theory.proofs.PartsLaws.{test_yes, test_no}
use Rattle.dn_arc_theory.proofs.ListedLaws.{spread_carries, fixed_carries}

-- the quotient and the remainder of the cost determine the fixed arcs
floor_arcs : (units cost each rest : ℤ) → pos 0 <ℤ units → IsFloor cost units each rest
    → spread_arcs units each rest ≡ fixed_arcs units cost
floor_arcs units cost each rest h f =
    let a = spread_carries units each rest cost h f in
    let b = fixed_carries units cost (omega (arith, ints)) (λ e. absurd (omega (arith, ints))) in
    fixed_same _ _ a.are b.are (a.units_is ∙ sym b.units_is) (a.cost_is ∙ sym b.cost_is)

pub not_zero : (z : ℤ) → FitsSigned w64 z → (of_z w64 z ≡ 0 → ⊥) → pos 0 ≤ℤ z → pos 0 <ℤ z
not_zero (pos n) f h g = omega (arith, ints)
not_zero (negsuc n) f h g = absurd (omega (arith, ints))

pub is_zero : (z : ℤ) → FitsSigned w64 z → of_z w64 z ≡ 0 → z ≡ pos 0
is_zero z f h = sym (to_z-of_z w64 z f) ∙ ap (to_z w64) h

fits_less : (units rest : ℤ) → FitsSigned w64 units → pos 0 ≤ℤ rest → rest <ℤ units → FitsSigned w64 (units -ℤ rest)
fits_less (pos u) (pos r) f h g = fits_some ((pos u) -ℤ (pos r)) (omega (arith, ints)) (omega (arith, ints, f.sfits))
fits_less (negsuc u) rest f h g = absurd (omega (arith, ints))
fits_less (pos u) (negsuc r) f h g = absurd (omega (arith, ints))

-- without forced units there are no fixed arcs
pub none_fixed : (units cost : ℤ) → FitsSigned w64 units → of_z w64 units ≡ 0 → [] ≡ fixed_arcs units cost
none_fixed units cost f h = rw (is_zero units f h)

-- the fixed arcs that the code makes
module _ (units cost each rest : ℤ) (fu : FitsSigned w64 units) (fe : FitsSigned w64 each) (fr : FitsSigned w64 rest)
    (some : pos 0 ≤ℤ units) (nonzero : of_z w64 units ≡ 0 → ⊥) (f : IsFloor cost units each rest) where
  lower_fits : FitsSigned w64 (units -ℤ rest)
  lower_fits = fits_less units rest fu f.low f.high

  -- the count of units at the lower cost fits 64 bits
  pub less_fits : FitsSigned w64 (to_z w64 (of_z w64 units) -ℤ to_z w64 (of_z w64 rest))
  less_fits = simp to_z-of_z lower_fits

  -- the lower cost plus one fits 64 bits
  pub each_below : IsMean cost units → (of_z w64 rest ≡ 0 → ⊥) → to_z w64 (of_z w64 each) <ℤ pos (2 ^ 63 - 1)
  each_below m z = rw (to_z-of_z w64 each fe) (each_next cost units each rest m f (not_zero rest fr z f.low))

  pub one_fixed : of_z w64 rest ≡ 0
      → fixed_arc (to_z w64 (of_z w64 units)) (to_z w64 (of_z w64 each)) ∷ [] ≡ fixed_arcs units cost
  one_fixed z =
      let lt = not_zero units fu nonzero some in
      let e = is_zero rest fr z in
      simp to_z-of_z (rw (test_no (pos 0) rest (omega (arith, ints))) at (floor_arcs units cost each rest lt f))

  pub two_fixed : (of_z w64 rest ≡ 0 → ⊥)
      → fixed_arc (to_z w64 (of_z w64 (to_z w64 (of_z w64 units) -ℤ to_z w64 (of_z w64 rest))))
      (to_z w64 (of_z w64 each)) ∷ fixed_arc (to_z w64 (of_z w64 rest))
      (to_z w64 (of_z w64 each) +ℤ pos 1) ∷ [] ≡ fixed_arcs units cost
  two_fixed z =
      let lt = not_zero units fu nonzero some in
      let left = not_zero rest fr z f.low in
      let fits = lower_fits in
      simp to_z-of_z (rw (test_yes (pos 0) rest left) at (floor_arcs units cost each rest lt f))

pub zero_is : (z : ℤ) → z ≡ pos 0 → of_z w64 z ≡ 0
zero_is z e = ap (of_z w64) e
