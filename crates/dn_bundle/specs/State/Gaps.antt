-- The first gap between two curves on which an amount has the same cost, given their breakpoints beyond this amount.
use Rattle.std.specs.Prelude.{◌≡◌, ◌-◌, ◌^◌, ℤ, pos, ◌+ℤ◌, ◌*ℤ◌, ◌≤ℤ◌, List, [], ◌∷◌, Option, Some, None, MatchOption, ◌&&◌, cond, int_lt, slice_get}
use Rattle.std.specs.Option.{option_map}
use Rattle.std.specs.Ordering.{int_eq}
use Rattle.dn_arc_theory.specs.Differences.{IsGap}
use Rattle.dn_arc_theory.specs.Meanings.{SameCurve}
use Rattle.dn_arc_theory.specs.declared.arc.CostArc.{CostArc}
use Rattle.dn_arc_theory.specs.declared.difference.Gap.{Gap}
use Rattle.dn_arc_theory.specs.State.Means.{IsMean}
use Rattle.dn_arc_theory.specs.State.Steps.{AreSteps, steps_room}

-- the option is the gap between two cost curves, or none if they mean the same
abbrev pub IsGapOf : List CostArc → List CostArc → Option Gap → Type 0
IsGapOf left right gap = MatchOption gap (SameCurve left right) (IsGap left right)

-- the cost plus that of one unit at a breakpoint, if there is one
abbrev pub unit_cost : ℤ → Option (ℤ × ℤ) → Option ℤ
unit_cost cost step = option_map (λ (step : ℤ × ℤ). cost +ℤ step.0) step

-- the gap at the next amount: on each side its cost, or none if no breakpoint remains
abbrev pub gap_next : ℤ → ℤ → Option (ℤ × ℤ) → Option (ℤ × ℤ) → Gap
gap_next amount cost left right = record {
  amount = amount +ℤ pos 1;
  left = unit_cost cost left;
  right = unit_cost cost right;
}

-- the gap at two breakpoints that differ, given the breakpoints after them
abbrev pub parted : ℤ → ℤ → ℤ × ℤ → ℤ × ℤ → Option (ℤ × ℤ) → Option (ℤ × ℤ) → Gap
parted amount cost l r left right =
    cond (int_eq l.0 r.0)
    (cond (int_lt l.1 r.1) (gap_next (amount +ℤ l.1) (cost +ℤ (l.1 *ℤ l.0)) left (Some r))
    (gap_next (amount +ℤ r.1) (cost +ℤ (r.1 *ℤ r.0)) (Some l) right))
    (gap_next amount cost (Some l) (Some r))

-- the first gap, which the first two breakpoints that differ determine
abbrev pub first_gap : ℤ → ℤ → List (ℤ × ℤ) → List (ℤ × ℤ) → Option Gap
first_gap amount cost [] [] = None
first_gap amount cost [] (r ∷ right) = Some (gap_next amount cost None (Some r))
first_gap amount cost (l ∷ left) [] = Some (gap_next amount cost (Some l) None)
first_gap amount cost (l ∷ left) (r ∷ right) =
    cond (int_eq l.0 r.0 && int_eq l.1 r.1)
    (first_gap (amount +ℤ l.1) (cost +ℤ (l.1 *ℤ l.0)) left right)
    (Some (parted amount cost l r (slice_get left 0) (slice_get right 0)))

-- two breakpoints differ, and the amount before them has a cost in range
pub record ArePart (amount cost : ℤ) (l r : ℤ × ℤ) : Type 0 where
  pub some : pos 0 ≤ℤ amount
  pub mean : IsMean cost amount
  pub left_room : pos 1 ≤ℤ l.1
  pub right_room : pos 1 ≤ℤ r.1
  pub left_most : (amount +ℤ l.1) ≤ℤ pos (2 ^ 63 - 1)
  pub right_most : (amount +ℤ r.1) ≤ℤ pos (2 ^ 63 - 1)
  pub differ : l.0 ≡ r.0 → l.1 ≡ r.1 → ⊥

-- both lists of breakpoints are valid, and the amount before them has a cost in range
pub record AreWalks (amount cost : ℤ) (left right : List (ℤ × ℤ)) : Type 0 where
  pub some : pos 0 ≤ℤ amount
  pub mean : IsMean cost amount
  pub left_ascending : AreSteps left
  pub right_ascending : AreSteps right
  pub left_most : (amount +ℤ steps_room left) ≤ℤ pos (2 ^ 63 - 1)
  pub right_most : (amount +ℤ steps_room right) ≤ℤ pos (2 ^ 63 - 1)
