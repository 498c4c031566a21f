-- Two curves first differ in their forced units, in the cost of these, or else at the first breakpoints that differ. If
-- no gap is found, they mean the same. The lemmas on a curve and the curve of no arcs follow at the end.
use Rattle.std.proofs.Common.{◌≡◌, ◌≢◌, ◌↔◌, ℤ, pos, ◌+ℤ◌, ◌-ℤ◌, ◌*ℤ◌, ◌≤ℤ◌, ◌<ℤ◌, List, [], ◌∷◌, slice_get, Option, Some, None, refl, sym, ap, ◌∙◌, arith, MatchOption, unwrap_or}
use Rattle.std.proofs.lemmas.Int.{ints, by_lt_z}
use Rattle.std.proofs.Math.IntN.{*ℤ_comm}
use Rattle.dn_arc_theory.specs.declared.arc.Form.TheVariants.{One}
use Rattle.dn_arc_theory.specs.declared.difference.Gap.{Gap}
use Rattle.dn_arc_theory.specs.Meanings.{SameCurve}
use Rattle.dn_arc_theory.specs.Splits.{LeastCost}
use Rattle.dn_arc_theory.specs.Differences.{IsCostOf, IsGap}
use Rattle.dn_arc_theory.specs.State.Steps.{AreSteps}
use Rattle.dn_arc_theory.specs.State.CurveListed.{listed, IsSound}
use Rattle.dn_bundle.specs.State.Gaps.{AreWalks, unit_cost, gap_next, first_gap}
use Rattle.dn_arc_theory.proofs.ProductsLaws.{mul_sub}
use Rattle.dn_arc_theory.proofs.CurvesLaws.{curve_meaning}
use Rattle.dn_arc_theory.proofs.PartsLaws.{test_yes, test_no}
use Rattle.dn_arc_theory.proofs.SoundLaws.{none_is}
use Rattle.dn_arc_theory.proofs.CanonsLaws.{eq_yes, eq_below, eq_past}
use Rattle.dn_bundle.proofs.FormLaws.{by_order}
use Rattle.dn_bundle.proofs.WalkLaws.{IsAt, least_at, at_least, at_more, more_at, at_here, at_start, at_one, too_little}

-- beyond an amount of this cost, the breakpoints give x the cost k, or they do not reach x
abbrev IsCostAt : ℤ → ℤ → List (ℤ × ℤ) → ℤ → Option ℤ → Type 0
IsCostAt amount cost steps x None = (k : ℤ) → IsAt amount cost steps x k → ⊥
IsCostAt amount cost steps x (Some k) = IsAt amount cost steps x k

-- two lists of breakpoints give x the same costs
abbrev SameAt : (amount cost : ℤ) → List (ℤ × ℤ) → (amount' cost' : ℤ) → List (ℤ × ℤ) → ℤ → Type 0
SameAt amount cost steps amount' cost' steps' x = (k : ℤ) → IsAt amount cost steps x k ↔ IsAt amount' cost' steps' x k

-- the least amount at which the costs differ, beyond an amount that has the same cost on both sides
record IsFirstGap (amount cost : ℤ) (left right : List (ℤ × ℤ)) (g : Gap) : Type 0 where
  pub past : amount <ℤ g.amount
  pub left_is : IsCostAt amount cost left g.amount g.left
  pub right_is : IsCostAt amount cost right g.amount g.right
  pub differ : g.left ≢ g.right
  pub below : (x : ℤ) → x <ℤ g.amount → SameAt amount cost left amount cost right x

-- the cost of the next amount
next_cost : (amount cost : ℤ) (steps : List (ℤ × ℤ)) → AreSteps steps
    → IsCostAt amount cost steps (amount +ℤ pos 1) (unit_cost cost (slice_get steps 0))
next_cost amount cost [] s = λ k p. omega (arith, ints)
next_cost amount cost (step ∷ rest) s =
    let one : (amount +ℤ pos 1) -ℤ amount ≡ pos 1 = omega (arith, ints) in
    let unit : pos 1 *ℤ step.0 ≡ step.0 = omega (arith, ints) in
    rw (one, unit) at (at_here amount cost step rest (amount +ℤ pos 1) s.2 (omega (arith, ints)) (omega (arith, ints)))

-- the costs up to this amount are the same on both sides
start_same : (amount cost : ℤ) (left right : List (ℤ × ℤ)) → AreSteps left → AreSteps right → (x k : ℤ)
    → x <ℤ (amount +ℤ pos 1) → IsAt amount cost left x k → IsAt amount cost right x k
start_same amount cost left right sl sr x k h p =
    let e : x ≡ amount = omega (arith, ints) in
    let is = at_one amount cost left amount cost k (at_start amount cost left sl) (rw e at p) in
    rw (e, ← is) (at_start amount cost right sr)

gap_now : (amount cost : ℤ) (left right : List (ℤ × ℤ)) → AreSteps left → AreSteps right
    → unit_cost cost (slice_get left 0) ≢ unit_cost cost (slice_get right 0)
    → IsFirstGap amount cost left right (gap_next amount cost (slice_get left 0) (slice_get right 0))
gap_now amount cost left right sl sr n = record {
  past = omega (arith, ints);
  left_is = next_cost amount cost left sl;
  right_is = next_cost amount cost right sr;
  differ = n;
  below = λ x h k. (start_same amount cost left right sl sr x k h, start_same amount cost right left sr sl x k h);
}

cost_at_same : (amount cost : ℤ) (steps : List (ℤ × ℤ)) (amount' cost' : ℤ) (steps' : List (ℤ × ℤ)) (x : ℤ)
    (o : Option ℤ) → SameAt amount cost steps amount' cost' steps' x → IsCostAt amount' cost' steps' x o
    → IsCostAt amount cost steps x o
cost_at_same amount cost steps amount' cost' steps' x None s c = λ k p. c k ((s k).0 p)
cost_at_same amount cost steps amount' cost' steps' x (Some k) s c = (s k).1 c

-- a gap beyond breakpoints that cost the same on both sides
module _ (amount cost : ℤ) (left right : List (ℤ × ℤ)) (amount' cost' : ℤ) (left' right' : List (ℤ × ℤ))
    (on : amount ≤ℤ amount')
    (sl : (x : ℤ) → amount' <ℤ x → SameAt amount cost left amount' cost' left' x)
    (sr : (x : ℤ) → amount' <ℤ x → SameAt amount cost right amount' cost' right' x)
    (within : (x : ℤ) → x ≤ℤ amount' → SameAt amount cost left amount cost right x) where
  later : (g : Gap) → IsFirstGap amount' cost' left' right' g → IsFirstGap amount cost left right g
  later g f =
      let h = f.past in
      record {
        past = omega (arith, ints);
        left_is = cost_at_same amount cost left amount' cost' left' g.amount g.left (sl g.amount h) f.left_is;
        right_is = cost_at_same amount cost right amount' cost' right' g.amount g.right (sr g.amount h) f.right_is;
        differ = f.differ;
        below = λ x lt k.
            by_lt_z amount' x
            (λ up. (
              (λ p. (sr x up k).1 ((f.below x lt k).0 ((sl x up k).0 p))),
              (λ p. (sl x up k).1 ((f.below x lt k).1 ((sr x up k).0 p))),
            ))
            (λ le. within x le k);
      }

-- what remains of a breakpoint after a part of its capacity
abbrev cut : ℤ → ℤ × ℤ → ℤ × ℤ
cut d step = (step.0, step.1 -ℤ d)

split : (d s c : ℤ) → (d *ℤ c) +ℤ ((s -ℤ d) *ℤ c) ≡ s *ℤ c
split d s c =
    let m = mul_sub c s d in
    let e = *ℤ_comm d c in
    let f = *ℤ_comm (s -ℤ d) c in
    omega (arith, ints, *ℤ_comm s c)

module _ (amount cost : ℤ) (step : ℤ × ℤ) (rest : List (ℤ × ℤ)) (s : AreSteps rest) where
  -- the cost of an amount within the first breakpoint
  here_is : (x k : ℤ) → (x -ℤ amount) ≤ℤ step.1 → IsAt amount cost (step ∷ rest) x k
      → k ≡ cost +ℤ ((x -ℤ amount) *ℤ step.0)
  here_is x k h p = at_one amount cost (step ∷ rest) x k _ p (at_here amount cost step rest x s p.low h)

  -- the costs beyond a part of the first breakpoint
  cut_same : (d : ℤ) → pos 0 ≤ℤ d → d <ℤ step.1 → (x : ℤ) → (amount +ℤ d) <ℤ x
      → SameAt amount cost (step ∷ rest) (amount +ℤ d) (cost +ℤ (d *ℤ step.0)) (cut d step ∷ rest) x
  cut_same d h l x u k =
      by_lt_z step.1 (x -ℤ amount)
      (λ lt.
      let over : (amount +ℤ step.1) <ℤ x = omega (arith, ints) in
      let end : (amount +ℤ d) +ℤ (step.1 -ℤ d) ≡ amount +ℤ step.1 = omega (arith, ints) in
      let all : (cost +ℤ (d *ℤ step.0)) +ℤ ((step.1 -ℤ d) *ℤ step.0) ≡ cost +ℤ (step.1 *ℤ step.0) =
      omega (arith, ints, split d step.1 step.0) in
      let some : pos 1 ≤ℤ (step.1 -ℤ d) = omega (arith, ints) in
      let past : ((amount +ℤ d) +ℤ (step.1 -ℤ d)) <ℤ x = omega (arith, ints) in
      let first : pos 1 ≤ℤ step.1 = omega (arith, ints) in (
        (λ p. more_at _ _ (cut d step) rest x some past k
            (rw (end, all) (at_more amount cost step rest x first over k p))),
        (λ p. more_at amount cost step rest x first over k
            (rw (end, all) at (at_more _ _ (cut d step) rest x some past k p))),
      ))
      (λ le.
      let same : (x -ℤ amount) -ℤ d ≡ x -ℤ (amount +ℤ d) = omega (arith, ints) in
      let all : (cost +ℤ (d *ℤ step.0)) +ℤ ((x -ℤ (amount +ℤ d)) *ℤ step.0) ≡ cost +ℤ ((x -ℤ amount) *ℤ step.0) =
      omega (arith, ints, split d (x -ℤ amount) step.0, ap (λ z. z *ℤ step.0) same) in
      let there = at_here (amount +ℤ d) (cost +ℤ (d *ℤ step.0)) (cut d step) rest x s (omega (arith, ints))
      (omega (arith, ints)) in (
        (λ p. rw (here_is x k le p, ← all) there),
        (λ p. rw (at_one _ _ (cut d step ∷ rest) x k _ p there, all)
            (at_here amount cost step rest x s (omega (arith, ints)) le)),
      ))

-- the costs beyond the first breakpoint
past_same : (amount cost : ℤ) (step : ℤ × ℤ) (rest : List (ℤ × ℤ)) → pos 1 ≤ℤ step.1 → (x : ℤ) → (amount +ℤ step.1) <ℤ x
    → SameAt amount cost (step ∷ rest) (amount +ℤ step.1) (cost +ℤ (step.1 *ℤ step.0)) rest x
past_same amount cost step rest some x u k =
    (at_more amount cost step rest x some u k, more_at amount cost step rest x some u k)

-- within the first breakpoints of both sides, which have one cost, the costs are the same
here_same : (amount cost : ℤ) (l r : ℤ × ℤ) (left right : List (ℤ × ℤ)) → AreSteps left → AreSteps right → l.0 ≡ r.0
    → (x k : ℤ) → (x -ℤ amount) ≤ℤ l.1 → (x -ℤ amount) ≤ℤ r.1 → IsAt amount cost (l ∷ left) x k
    → IsAt amount cost (r ∷ right) x k
here_same amount cost l r left right sl sr e x k h g p =
    rw (here_is amount cost l left sl x k h p, e) (at_here amount cost r right x sr p.low g)

-- the breakpoint after one has a higher cost
next_differs : (cost : ℤ) (step other : ℤ × ℤ) (rest : List (ℤ × ℤ)) → AreSteps (step ∷ rest) → step.0 ≡ other.0
    → unit_cost cost (slice_get rest 0) ≢ unit_cost cost (Some other)
next_differs cost step other [] s e = λ h. cc
next_differs cost step other (next ∷ rest) s e = λ h. omega (arith, ints, ap (λ o. unwrap_or o (pos 0)) h)

module _ (amount cost : ℤ) (l r : ℤ × ℤ) (left right : List (ℤ × ℤ)) (sl : AreSteps (l ∷ left))
    (sr : AreSteps (r ∷ right)) where
  abbrev after : Option Gap
  after = first_gap (amount +ℤ l.1) (cost +ℤ (l.1 *ℤ l.0)) left right

  abbrev left_ends : Gap
  left_ends = gap_next (amount +ℤ l.1) (cost +ℤ (l.1 *ℤ l.0)) (slice_get left 0) (Some r)

  abbrev right_ends : Gap
  right_ends = gap_next (amount +ℤ r.1) (cost +ℤ (r.1 *ℤ r.0)) (Some l) (slice_get right 0)

  abbrev Found : Option Gap → Type 0
  Found o = MatchOption o ((l ∷ left) ≡ (r ∷ right)) (IsFirstGap amount cost (l ∷ left) (r ∷ right))

  apart_costs : (l.0 ≡ r.0 → ⊥) → IsFirstGap amount cost (l ∷ left) (r ∷ right) (gap_next amount cost (Some l) (Some r))
  apart_costs n =
      gap_now amount cost (l ∷ left) (r ∷ right) sl sr
      (λ e. let f = ap (λ o. unwrap_or o (pos 0)) e in n (omega (arith, ints)))

  left_first : l.0 ≡ r.0 → l.1 <ℤ r.1 → IsFirstGap amount cost (l ∷ left) (r ∷ right) left_ends
  left_first e h =
      let rest : AreSteps (cut l.1 r ∷ right) = (omega (arith, ints), sr.1, sr.2) in
      later amount cost (l ∷ left) (r ∷ right) (amount +ℤ l.1) (cost +ℤ (l.1 *ℤ l.0)) left (cut l.1 r ∷ right)
      (omega (arith, ints))
      (past_same amount cost l left sl.0)
      (λ x u. rw e (cut_same amount cost r right sr.2 l.1 (omega (arith, ints)) h x u))
      (λ x u k. (
        here_same amount cost l r left right sl.2 sr.2 e x k (omega (arith, ints)) (omega (arith, ints)),
        here_same amount cost r l right left sr.2 sl.2 (sym e) x k (omega (arith, ints)) (omega (arith, ints)),
      ))
      left_ends
      (gap_now (amount +ℤ l.1) (cost +ℤ (l.1 *ℤ l.0)) left (cut l.1 r ∷ right) sl.2 rest
      (next_differs (cost +ℤ (l.1 *ℤ l.0)) l r left sl e))

  right_first : l.0 ≡ r.0 → r.1 <ℤ l.1 → IsFirstGap amount cost (l ∷ left) (r ∷ right) right_ends
  right_first e h =
      let rest : AreSteps (cut r.1 l ∷ left) = (omega (arith, ints), sl.1, sl.2) in
      later amount cost (l ∷ left) (r ∷ right) (amount +ℤ r.1) (cost +ℤ (r.1 *ℤ r.0)) (cut r.1 l ∷ left) right
      (omega (arith, ints))
      (λ x u. rw (← e) (cut_same amount cost l left sl.2 r.1 (omega (arith, ints)) h x u))
      (past_same amount cost r right sr.0)
      (λ x u k. (
        here_same amount cost l r left right sl.2 sr.2 e x k (omega (arith, ints)) (omega (arith, ints)),
        here_same amount cost r l right left sr.2 sl.2 (sym e) x k (omega (arith, ints)) (omega (arith, ints)),
      ))
      right_ends
      (gap_now (amount +ℤ r.1) (cost +ℤ (r.1 *ℤ r.0)) (cut r.1 l ∷ left) right rest sr.2
      (λ f. next_differs (cost +ℤ (r.1 *ℤ r.0)) r l right sr (sym e) (sym f)))

  both_end : l.0 ≡ r.0 → l.1 ≡ r.1 → (o : Option Gap)
      → MatchOption o (left ≡ right) (IsFirstGap (amount +ℤ l.1) (cost +ℤ (l.1 *ℤ l.0)) left right) → Found o
  both_end e f None s = let same : l ≡ r = ap (λ z. (z, l.1)) e ∙ ap (λ z. (r.0, z)) f in
      rw (same, s)
  both_end e f (Some g) i =
      later amount cost (l ∷ left) (r ∷ right) (amount +ℤ l.1) (cost +ℤ (l.1 *ℤ l.0)) left right (omega (arith, ints))
      (past_same amount cost l left sl.0)
      (rw (e, f) (past_same amount cost r right sr.0))
      (λ x u k. (
        here_same amount cost l r left right sl.2 sr.2 e x k (omega (arith, ints)) (omega (arith, ints)),
        here_same amount cost r l right left sr.2 sl.2 (sym e) x k (omega (arith, ints)) (omega (arith, ints)),
      ))
      g i

  found_next : MatchOption after (left ≡ right) (IsFirstGap (amount +ℤ l.1) (cost +ℤ (l.1 *ℤ l.0)) left right)
      → Found (first_gap amount cost (l ∷ left) (r ∷ right))
  found_next i =
      by_order l.0 r.0 (λ lt. rw (eq_below l.0 r.0 lt) (apart_costs (λ e. omega (arith, ints))))
      (λ e. rw (eq_yes l.0 r.0 e)
      (by_order l.1 r.1 (λ lt. rw (eq_below l.1 r.1 lt, test_yes l.1 r.1 lt) (left_first e lt))
      (λ f. rw (eq_yes l.1 r.1 f) (both_end e f after i))
      (λ gt. rw (eq_past l.1 r.1 gt, test_no l.1 r.1 (omega (arith, ints))) (right_first e gt))))
      (λ gt. rw (eq_past l.0 r.0 gt) (apart_costs (λ e. omega (arith, ints))))

-- the gap that the search finds is the first gap, and if it finds none, the breakpoints are the same
found : (amount cost : ℤ) (left right : List (ℤ × ℤ)) → AreSteps left → AreSteps right
    → MatchOption (first_gap amount cost left right) (left ≡ right) (IsFirstGap amount cost left right)
found amount cost [] [] sl sr = refl
found amount cost [] (r ∷ right) sl sr = gap_now amount cost [] (r ∷ right) sl sr (λ e. cc)
found amount cost (l ∷ left) [] sl sr = gap_now amount cost (l ∷ left) [] sl sr (λ e. cc)
found amount cost (l ∷ left) (r ∷ right) sl sr =
    found_next amount cost l r left right sl sr (found (amount +ℤ l.1) (cost +ℤ (l.1 *ℤ l.0)) left right sl.2 sr.2)

-- the costs of a curve, by its breakpoints
cost_of_at : (units cost total : ℤ) (steps : List (ℤ × ℤ)) → IsSound units cost total steps → (x : ℤ) (o : Option ℤ)
    → IsCostAt units cost steps x o → IsCostOf (listed One units cost steps) x o
cost_of_at units cost total steps s x None c = λ k l. c k (least_at units cost total steps s x k l)
cost_of_at units cost total steps s x (Some k) c = at_least units cost total steps s x k c

module _ (units cost total : ℤ) (steps : List (ℤ × ℤ)) (s : IsSound units cost total steps) where
  at_units : LeastCost (listed One units cost steps) units cost
  at_units = at_least units cost total steps s units cost (at_start units cost steps s.ascending)

  below_units : (x k : ℤ) → x <ℤ units → LeastCost (listed One units cost steps) x k → ⊥
  below_units x k h l = too_little units cost steps x k h (least_at units cost total steps s x k l)

-- the gap between two curves
module _ (units cost total : ℤ) (steps : List (ℤ × ℤ)) (s : IsSound units cost total steps) (units' cost' total' : ℤ)
    (steps' : List (ℤ × ℤ)) (s' : IsSound units' cost' total' steps') where
  pub left_gap : units <ℤ units'
      → IsGap (listed One units cost steps) (listed One units' cost' steps')
      (record { amount = units; left = Some cost; right = None })
  left_gap h = record {
    left = at_units units cost total steps s;
    right = λ k l. below_units units' cost' total' steps' s' units k h l;
    differ = λ e. cc;
    same_below =
        λ x k lt. (
          (λ l. absurd (below_units units cost total steps s x k lt l)),
          (λ l. absurd (below_units units' cost' total' steps' s' x k (omega (arith, ints)) l)),
        );
  }

  pub right_gap : units' <ℤ units
      → IsGap (listed One units cost steps) (listed One units' cost' steps')
      (record { amount = units'; left = None; right = Some cost' })
  right_gap h = record {
    left = λ k l. below_units units cost total steps s units' k h l;
    right = at_units units' cost' total' steps' s';
    differ = λ e. cc;
    same_below =
        λ x k lt. (
          (λ l. absurd (below_units units cost total steps s x k (omega (arith, ints)) l)),
          (λ l. absurd (below_units units' cost' total' steps' s' x k lt l)),
        );
  }

  pub from_units : units ≡ units' → AreWalks units cost steps steps'
  from_units e =
      record {
        some = s.some;
        mean = s.mean;
        left_ascending = s.ascending;
        right_ascending = s'.ascending;
        left_most = omega (arith, ints);
        right_most = omega (arith, ints);
      }

  pub cost_gap : units ≡ units' → (cost ≡ cost' → ⊥)
      → IsGap (listed One units cost steps) (listed One units' cost' steps')
      (record { amount = units; left = Some cost; right = Some cost' })
  cost_gap e n = record {
    left = at_units units cost total steps s;
    right = rw e (at_units units' cost' total' steps' s');
    differ = λ f. let g = ap (λ o. unwrap_or o (pos 0)) f in n g;
    same_below =
        λ x k lt. (
          (λ l. absurd (below_units units cost total steps s x k lt l)),
          (λ l. absurd (below_units units' cost' total' steps' s' x k (omega (arith, ints)) l)),
        );
  }

abbrev pub Parts : ℤ → ℤ → List (ℤ × ℤ) → ℤ → ℤ → List (ℤ × ℤ) → Option Gap → Type 0
Parts units cost steps units' cost' steps' o =
    MatchOption o (SameCurve (listed One units cost steps) (listed One units' cost' steps'))
    (IsGap (listed One units cost steps) (listed One units' cost' steps'))

module _ (units cost total total' : ℤ) (steps steps' : List (ℤ × ℤ)) (s : IsSound units cost total steps)
    (s' : IsSound units cost total' steps') where
  parts_by : (o : Option Gap) → MatchOption o (steps ≡ steps') (IsFirstGap units cost steps steps')
      → Parts units cost steps units cost steps' o
  parts_by None e = rw (← e) (curve_meaning.same_refl _)
  parts_by (Some g) f = record {
    left = cost_of_at units cost total steps s g.amount g.left f.left_is;
    right = cost_of_at units cost total' steps' s' g.amount g.right f.right_is;
    differ = f.differ;
    same_below = λ x k lt. (
      (λ l. at_least units cost total' steps' s' x k ((f.below x lt k).0 (least_at units cost total steps s x k l))),
      (λ l. at_least units cost total steps s x k ((f.below x lt k).1 (least_at units cost total' steps' s' x k l))),
    );
  }

-- the gap between curves that have the same forced units at the same cost
pub step_gap : (units cost total : ℤ) (steps : List (ℤ × ℤ)) → IsSound units cost total steps
    → (units' cost' total' : ℤ) (steps' : List (ℤ × ℤ)) → IsSound units' cost' total' steps' → units ≡ units'
    → cost ≡ cost' → Parts units cost steps units' cost' steps' (first_gap units cost steps steps')
step_gap units cost total steps s units' cost' total' steps' s' e f =
    let t : IsSound units cost total' steps' = rw (e, f) s' in
    rw (← e, ← f)
    (parts_by units cost total total' steps steps' s t _ (found units cost steps steps' s.ascending t.ascending))

none_sound : IsSound (pos 0) (pos 0) (pos 0) []
none_sound = record {
  some = omega (arith, ints);
  mean = record { least = omega (arith, ints); greatest = omega (arith, ints) };
  whole = refl;
  most = omega (arith, ints);
  ascending = tt;
  fit = tt;
}

-- the gap between a curve and the curve of no arcs
module _ (units cost total : ℤ) (steps : List (ℤ × ℤ)) (s : IsSound units cost total steps) where
  pub forced_gap : (units ≡ pos 0 → ⊥)
      → IsGap (listed One units cost steps) [] (record { amount = pos 0; left = None; right = Some (pos 0) })
  forced_gap n = right_gap units cost total steps s (pos 0) (pos 0) (pos 0) [] none_sound
      (by_lt_z (pos 0) units (λ lt. lt) (λ le. absurd (n (omega (arith, ints)))))

  free_parts : units ≡ pos 0 → Parts units cost steps (pos 0) (pos 0) [] (first_gap units cost steps [])
  free_parts e =
      step_gap units cost total steps s (pos 0) (pos 0) (pos 0) [] none_sound e (none_is units cost total steps s e)

-- a curve without forced units and without breakpoints means the same as no arcs
pub no_gap : (units cost total : ℤ) (steps : List (ℤ × ℤ)) → IsSound units cost total steps → units ≡ pos 0
    → None ≡ slice_get steps 0 → SameCurve (listed One units cost steps) []
no_gap units cost total [] s e h = free_parts units cost total [] s e
no_gap units cost total (step ∷ rest) s e h = cc

pub free_gap : (units cost total : ℤ) (steps : List (ℤ × ℤ)) → IsSound units cost total steps → units ≡ pos 0
    → (step : ℤ × ℤ) → Some step ≡ slice_get steps 0
    → IsGap (listed One units cost steps) [] (record { amount = pos 1; left = Some step.0; right = None })
free_gap units cost total [] s e step h = cc
free_gap units cost total (first ∷ rest) s e step h =
    let same : step ≡ first = ap (λ o. unwrap_or o (pos 0, pos 0)) h in
    let one : units +ℤ pos 1 ≡ pos 1 = omega (arith, ints) in
    let z = none_is units cost total (first ∷ rest) s e in
    let c : cost +ℤ first.0 ≡ first.0 = omega (arith, ints) in
    rw same (rw (one, c) at (free_parts units cost total (first ∷ rest) s e))
