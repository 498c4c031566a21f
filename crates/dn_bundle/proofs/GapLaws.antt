-- The search for the first gap in the code: each turn of its loop leaves the same first gap to find, and its numbers
-- fit.
use Rattle.std.proofs.Common.{◌≡◌, ◌-◌, ◌^◌, ℤ, pos, ◌+ℤ◌, ◌*ℤ◌, ◌≤ℤ◌, ◌<ℤ◌, ◌<◌, List, [], ◌∷◌, length, Option, None, Some, Bool, true, false, ◌&&◌, not, slice_get, refl, sym, ap, ◌∙◌, arith, to_z, of_z, w64, FitsSigned, int_lt, int_eq}
use Rattle.std.specs.Int.{w128}
use Rattle.std.specs.Iterator.{YieldsFirst}
use Rattle.std.proofs.lemmas.Bool.{not-true, not-false}
use Rattle.std.proofs.lemmas.Int.{ints, to_z-of_z, by_lt_z}
use Rattle.dn_arc_theory.specs.declared.difference.Gap.{Gap}
use Rattle.dn_arc_theory.specs.State.Means.{IsMean}
use Rattle.dn_arc_theory.specs.State.Steps.{AreSteps, steps_room}
use Rattle.dn_bundle.specs.State.Gaps.{unit_cost, gap_next, parted, first_gap, ArePart, AreWalks}
use Rattle.dn_arc_theory.proofs.MeansLaws.{more_mean, fits_some}
use Rattle.dn_arc_theory.proofs.PartsLaws.{test_yes, test_no}
use Rattle.dn_arc_theory.proofs.StepArcsLaws.{steps_some}
use Rattle.dn_bundle.proofs.Cost128Laws.{more_fits}
use Rattle.dn_bundle.proofs.StepLaws.{less, not_less, next_fits, next_is}
use Rattle.dn_arc_theory.proofs.CanonsLaws.{eq_yes}

-- the amount plus one, as the code computes it
module _ (amount : ℤ) (some : pos 0 ≤ℤ amount) (most : amount <ℤ pos (2 ^ 63 - 1)) where
  now_fits : FitsSigned w64 amount
  now_fits = fits_some amount some (omega (arith, ints))

  pub next_amount_fits : FitsSigned w64 (to_z w64 (of_z w64 amount) +ℤ pos 1)
  next_amount_fits = next_fits amount now_fits most

  pub next_gap : (cost : ℤ) (left right : Option (ℤ × ℤ)) (l r : Option ℤ) → l ≡ unit_cost cost left
      → r ≡ unit_cost cost right
      → record {
        amount = to_z w64 (of_z w64 (to_z w64 (of_z w64 amount) +ℤ pos 1));
        left = l;
        right = r;
      } ≡ gap_next amount cost left right
  next_gap cost left right l r e f = rw (next_is amount now_fits most, e, f)

-- the amount plus the capacity of a breakpoint, as the code computes it
module _ (amount cost : ℤ) (step : ℤ × ℤ) (some : pos 0 ≤ℤ amount) (room : pos 1 ≤ℤ step.1)
    (most : (amount +ℤ step.1) <ℤ pos (2 ^ 63 - 1)) where
  amount_fits : FitsSigned w64 amount
  amount_fits = fits_some amount some (omega (arith, ints))

  room_fits : FitsSigned w64 step.1
  room_fits = fits_some step.1 (omega (arith, ints)) (omega (arith, ints))

  both_fit : FitsSigned w64 (amount +ℤ step.1)
  both_fit = fits_some (amount +ℤ step.1) (omega (arith, ints)) (omega (arith, ints))

  pub past_fits : FitsSigned w64 (to_z w64 (of_z w64 amount) +ℤ to_z w64 (of_z w64 step.1))
  past_fits = simp (to_z-of_z, amount_fits, room_fits) both_fit

  sum_is : to_z w64 (of_z w64 (to_z w64 (of_z w64 amount) +ℤ to_z w64 (of_z w64 step.1))) ≡ amount +ℤ step.1
  sum_is = simp (to_z-of_z, amount_fits, room_fits, both_fit)

  pub past_some : pos 0 ≤ℤ to_z w64 (of_z w64 (to_z w64 (of_z w64 amount) +ℤ to_z w64 (of_z w64 step.1)))
  past_some = rw sum_is (omega (arith, ints))

  pub past_most : to_z w64 (of_z w64 (to_z w64 (of_z w64 amount) +ℤ to_z w64 (of_z w64 step.1))) <ℤ pos (2 ^ 63 - 1)
  past_most = rw sum_is most

  module _ (fc : FitsSigned w64 step.0) (mean : IsMean cost amount) where
    pub past_cost_fits : FitsSigned w128 (cost +ℤ (step.1 *ℤ step.0))
    past_cost_fits = more_fits cost step.1 step.0 amount some (omega (arith, ints)) (omega (arith, ints)) fc mean

    module _ (r : ℤ) (e : r ≡ cost +ℤ (step.1 *ℤ step.0)) where
      cost_is : to_z w128 (of_z w128 r) ≡ cost +ℤ (step.1 *ℤ step.0)
      cost_is = rw e (to_z-of_z w128 _ past_cost_fits)

      pub past_mean : IsMean (to_z w128 (of_z w128 r))
          (to_z w64 (of_z w64 (to_z w64 (of_z w64 amount) +ℤ to_z w64 (of_z w64 step.1))))
      past_mean = rw (sum_is, cost_is) (more_mean cost step.1 step.0 amount some (omega (arith, ints)) fc mean)

      pub past_gap : (g : Gap) (left right : Option (ℤ × ℤ))
          → g ≡ gap_next (to_z w64 (of_z w64 (to_z w64 (of_z w64 amount) +ℤ to_z w64 (of_z w64 step.1))))
          (to_z w128 (of_z w128 r)) left right → g ≡ gap_next (amount +ℤ step.1) (cost +ℤ (step.1 *ℤ step.0)) left right
      past_gap g left right h = rw (sum_is, cost_is) at h

pub eq_no : (x y : ℤ) → (x ≡ y → ⊥) → int_eq x y ≡ false
eq_no x y h = grind (arith, ints)

-- the gap at two breakpoints that differ, by the comparisons of the code
module _ (amount cost : ℤ) (l r : ℤ × ℤ) (p : ArePart amount cost l r) where
  pub part_now : amount <ℤ pos (2 ^ 63 - 1)
  part_now = omega (arith, ints)

  left_room_fits : FitsSigned w64 l.1
  left_room_fits = fits_some l.1 (omega (arith, ints)) (omega (arith, ints))

  right_room_fits : FitsSigned w64 r.1
  right_room_fits = fits_some r.1 (omega (arith, ints)) (omega (arith, ints))

  pub costs_part : (left right : Option (ℤ × ℤ)) → (of_z w64 l.0 ≡ of_z w64 r.0 → ⊥)
      → gap_next amount cost (Some l) (Some r) ≡ parted amount cost l r left right
  costs_part left right n = rw (eq_no l.0 r.0 (λ e. n (ap (of_z w64) e)))

  module _ (fl : FitsSigned w64 l.0) (fr : FitsSigned w64 r.0) (same : of_z w64 l.0 ≡ of_z w64 r.0) where
    same_cost : l.0 ≡ r.0
    same_cost = sym (to_z-of_z w64 l.0 fl) ∙ ap (to_z w64) same ∙ to_z-of_z w64 r.0 fr

    -- the left breakpoint has less capacity
    module _ (h : int_lt (to_z w64 (of_z w64 l.1)) (to_z w64 (of_z w64 r.1)) ≡ true) where
      pub left_part_most : (amount +ℤ l.1) <ℤ pos (2 ^ 63 - 1)
      left_part_most = omega (arith, ints, less l.1 r.1 left_room_fits right_room_fits h)

      pub left_part : (left right : Option (ℤ × ℤ))
          → gap_next (amount +ℤ l.1) (cost +ℤ (l.1 *ℤ l.0)) left (Some r) ≡ parted amount cost l r left right
      left_part left right =
          rw (eq_yes l.0 r.0 same_cost, test_yes l.1 r.1 (less l.1 r.1 left_room_fits right_room_fits h))

    -- the right breakpoint does not have more capacity than the left
    module _ (h : int_lt (to_z w64 (of_z w64 l.1)) (to_z w64 (of_z w64 r.1)) ≡ false) where
      pub right_part_most : (amount +ℤ r.1) <ℤ pos (2 ^ 63 - 1)
      right_part_most =
          let le = not_less l.1 r.1 left_room_fits right_room_fits h in
          by_lt_z r.1 l.1 (λ lt. omega (arith, ints)) (λ ge. absurd (p.differ same_cost (omega (arith, ints))))

      pub right_part : (left right : Option (ℤ × ℤ))
          → gap_next (amount +ℤ r.1) (cost +ℤ (r.1 *ℤ r.0)) (Some l) right ≡ parted amount cost l r left right
      right_part left right =
          rw (eq_yes l.0 r.0 same_cost, test_no l.1 r.1 (not_less l.1 r.1 left_room_fits right_room_fits h))

-- whether two breakpoints are the same
abbrev pub same_steps : ℤ × ℤ → ℤ × ℤ → Bool
same_steps l r = int_eq l.0 r.0 && int_eq l.1 r.1

-- the next breakpoint on the left
module _ (amount cost : ℤ) (left right rest : List (ℤ × ℤ)) (l : ℤ × ℤ) (w : AreWalks amount cost left right)
    (e : left ≡ l ∷ rest) where
  left_steps : AreSteps (l ∷ rest)
  left_steps = rw e at w.left_ascending

  left_whole : (amount +ℤ l.1) ≤ℤ pos (2 ^ 63 - 1)
  left_whole =
      let whole : (amount +ℤ (l.1 +ℤ steps_room rest)) ≤ℤ pos (2 ^ 63 - 1) = rw e at w.left_most in
      omega (arith, ints, steps_some rest left_steps.2)

  pub left_now : amount <ℤ pos (2 ^ 63 - 1)
  left_now = omega (arith, ints, left_whole, left_steps.0)

  pub left_fits : FitsSigned w64 (amount +ℤ l.1)
  left_fits = fits_some (amount +ℤ l.1) (omega (arith, ints, left_steps.0)) left_whole

  pub left_cost_fits : FitsSigned w64 l.0 → FitsSigned w128 (cost +ℤ (l.1 *ℤ l.0))
  left_cost_fits f = more_fits cost l.1 l.0 amount w.some (omega (arith, ints, left_steps.0)) left_whole f w.mean

-- the next breakpoint on the right
pub right_now : (amount cost : ℤ) (left right rest : List (ℤ × ℤ)) (r : ℤ × ℤ) → AreWalks amount cost left right
    → right ≡ r ∷ rest → amount <ℤ pos (2 ^ 63 - 1)
right_now amount cost left right rest r w e =
    let s : AreSteps (r ∷ rest) = rw e at w.right_ascending in
    omega (arith, ints, steps_some rest s.2, rw e at w.right_most)

-- the next breakpoint on each side
module _ (amount cost : ℤ) (left right lrest rrest : List (ℤ × ℤ)) (l r : ℤ × ℤ) (w : AreWalks amount cost left right)
    (el : left ≡ l ∷ lrest) (er : right ≡ r ∷ rrest) where
  both : AreWalks amount cost (l ∷ lrest) (r ∷ rrest)
  both = rw (← el, ← er) w

  pub are_part : not (same_steps l r) ≡ true → ArePart amount cost l r
  are_part h =
      let b = both in
      let lmore = steps_some lrest b.left_ascending.2 in
      let rmore = steps_some rrest b.right_ascending.2 in
      record {
        some = w.some;
        mean = w.mean;
        left_room = b.left_ascending.0;
        right_room = b.right_ascending.0;
        left_most = omega (arith, ints);
        right_most = omega (arith, ints);
        differ = λ c k. grind (arith, ints);
      }

  pub gap_here : not (same_steps l r) ≡ true
      → first_gap amount cost left right ≡ Some (parted amount cost l r (slice_get lrest 0) (slice_get rrest 0))
  gap_here h = rw (el, er, not-true (same_steps l r) h)

  pub gap_on : not (same_steps l r) ≡ false
      → first_gap (amount +ℤ l.1) (cost +ℤ (l.1 *ℤ l.0)) lrest rrest ≡ first_gap amount cost left right
  gap_on h = rw (el, er, not-false (same_steps l r) h)

  pub walk_on : not (same_steps l r) ≡ false → FitsSigned w64 l.0
      → AreWalks (amount +ℤ l.1) (cost +ℤ (l.1 *ℤ l.0)) lrest rrest
  walk_on h f =
      let b = both in
      let room : l.1 ≡ r.1 = grind (arith, ints) in
      record {
        some = omega (arith, ints);
        mean = more_mean cost l.1 l.0 amount w.some (omega (arith, ints)) f w.mean;
        left_ascending = b.left_ascending.2;
        right_ascending = b.right_ascending.2;
        left_most = omega (arith, ints);
        right_most = omega (arith, ints);
      }

-- an iterator returns the first of the remaining elements
pub first_left : {A : Type 0} (rest left : List A) (first : Option A) → YieldsFirst (λ s. s) rest first left
    → first ≡ slice_get rest 0
first_left rest left None y = sym (ap (λ l. slice_get l 0) y.0)
first_left rest left (Some x) y = sym (ap (λ l. slice_get l 0) y)

-- the remaining breakpoints have the same first gap as the breakpoints that the search began with
pub record IsWalk (amount cost : ℤ) (left right : List (ℤ × ℤ)) (amount' cost' : ℤ)
    (left' right' : List (ℤ × ℤ)) : Type 0 where
  pub same : first_gap amount' cost' left' right' ≡ first_gap amount cost left right
  pub walks : AreWalks amount' cost' left' right'

-- the search begins with these numbers, as the code stores them
module _ (amount cost : ℤ) (fa : FitsSigned w64 amount) (fc : FitsSigned w128 cost) (left right : List (ℤ × ℤ)) where
  pub entry_is : first_gap (to_z w64 (of_z w64 amount))
      (to_z w128 (of_z w128 cost)) left right ≡ first_gap amount cost left right
  entry_is = simp to_z-of_z

  pub walk_start : AreWalks amount cost left right
      → IsWalk (to_z w64 (of_z w64 amount)) (to_z w128 (of_z w128 cost)) left right (to_z w64 (of_z w64 amount))
      (to_z w128 (of_z w128 cost)) left right
  walk_start w = simp to_z-of_z (record { same = refl; walks = w })

pub shorter : {A : Type 0} (x : A) (rest all : List A) → all ≡ x ∷ rest → length rest < length all
shorter x rest all e = rw e (omega arith)

-- one side has no remaining breakpoint
module _ (amount cost : ℤ) (left right rest : List (ℤ × ℤ)) (step : ℤ × ℤ) where
  pub left_alone : left ≡ step ∷ rest → right ≡ []
      → Some (gap_next amount cost (Some step) None) ≡ first_gap amount cost left right
  left_alone e f = rw (e, f)

  pub right_alone : left ≡ [] → right ≡ step ∷ rest
      → Some (gap_next amount cost None (Some step)) ≡ first_gap amount cost left right
  right_alone e f = rw (e, f)

pub no_more : (amount cost : ℤ) (left right : List (ℤ × ℤ)) → left ≡ [] → right ≡ []
    → None ≡ first_gap amount cost left right
no_more amount cost left right e f = rw (e, f)

-- one turn of the loop in the code
module _ (amount cost : ℤ) (left right : List (ℤ × ℤ)) (amount' cost' : ℤ) (left' right' lrest rrest : List (ℤ × ℤ))
    (l r : ℤ × ℤ) (w : IsWalk amount cost left right amount' cost' left' right') (el : left' ≡ l ∷ lrest)
    (er : right' ≡ r ∷ rrest) where
  pub same_walk : not (same_steps l r) ≡ false → FitsSigned w64 l.0 → FitsSigned w64 l.1 → (k : ℤ) → FitsSigned w128 k
      → k ≡ cost' +ℤ (l.1 *ℤ l.0)
      → IsWalk amount cost left right (to_z w64 (of_z w64 (amount' +ℤ to_z w64 (of_z w64 l.1))))
      (to_z w128 (of_z w128 k)) lrest rrest
  same_walk h f0 f1 k fk e =
      let new : IsWalk amount cost left right (amount' +ℤ l.1) (cost' +ℤ (l.1 *ℤ l.0)) lrest rrest = record {
        same = gap_on amount' cost' left' right' lrest rrest l r w.walks el er h ∙ w.same;
        walks = walk_on amount' cost' left' right' lrest rrest l r w.walks el er h f0;
      } in
      let fa = left_fits amount' cost' left' right' lrest l w.walks el in
      rw (to_z-of_z w64 l.1 f1, to_z-of_z w64 (amount' +ℤ l.1) fa, to_z-of_z w128 k fk, e) new

  pub gap_found : not (same_steps l r) ≡ true → (lnext rnext : Option (ℤ × ℤ)) (lleft rleft : List (ℤ × ℤ))
      → YieldsFirst (λ s. s) lrest lnext lleft → YieldsFirst (λ s. s) rrest rnext rleft → (g : Gap)
      → g ≡ parted amount' cost' l r lnext rnext → Some g ≡ first_gap amount cost left right
  gap_found h lnext rnext lleft rleft yl yr g e =
      rw (e, first_left lrest lleft lnext yl, first_left rrest rleft rnext yr)
      (sym (gap_here amount' cost' left' right' lrest rrest l r w.walks el er h) ∙ w.same)

  -- the amount at the end of a breakpoint fits 64 bits
  pub sum_fits : FitsSigned w64 l.1 → FitsSigned w64 (amount' +ℤ to_z w64 (of_z w64 l.1))
  sum_fits f = rw (to_z-of_z w64 l.1 f) (left_fits amount' cost' left' right' lrest l w.walks el)
