-- Adding an arc to a shape with forced units and free capacity at one cost: the shape remains plain.
use Rattle.std.proofs.Common.{◌≡◌, ◌⊎◌, ℤ, pos, negsuc, ◌+ℤ◌, ◌-ℤ◌, ◌*ℤ◌, ◌≤ℤ◌, ◌<ℤ◌, List, [], ◌∷◌, sym, ap, ◌∙◌, subst, arith, w64, to_z, of_z, inl, inr, ℕ, ◌+◌, refl, FitsSigned}
use Rattle.std.proofs.Math.IntN.{*ℤ_comm, zero-*ℤ}
use Rattle.dn_arc_theory.proofs.ProductsLaws.{mul_add}
use Rattle.std.proofs.Math.IntN.{nat_abs}
use Rattle.std.specs.Int.{w128}
use Rattle.dn_bundle.specs.declared.curve.shape.Numbers.{Numbers}
use Rattle.dn_arc_theory.specs.State.CurveListed.{IsSound}
use Rattle.dn_bundle.proofs.GrowLaws.{most}
use Rattle.std.proofs.lemmas.Int.{ints, to_z-of_z, by_lt_z}
use Rattle.dn_arc_theory.specs.declared.arc.CostArc.{CostArc}
use Rattle.dn_bundle.specs.declared.curve.shape.Shape.{Shape}
use Rattle.dn_bundle.specs.declared.curve.shape.OneCost.{OneCost}
use Rattle.dn_arc_theory.specs.Canonical.{IsCostArc}
use Rattle.dn_arc_theory.specs.State.Steps.{steps_of, put_step, add_step}
use Rattle.dn_bundle.specs.State.Shapes.{one_step, plain, shape_numbers, AreSound, IsGrown, StaysPlain}
use Rattle.dn_arc_theory.proofs.PartsLaws.{test_yes, test_no}
use Rattle.dn_arc_theory.proofs.StepArcsLaws.{steps_some}
use Rattle.dn_arc_theory.proofs.MeansLaws.{fits_some}
use Rattle.dn_bundle.proofs.StepLaws.{put_at}

-- capacity above 0 at a cost is a breakpoint
pub some_step : (one : OneCost) → pos 0 <ℤ one.free
    → steps_of (one_step one.cost one.free) [] ≡ (one.cost, one.free) ∷ []
some_step one h = rw test_yes

no_step : (one : OneCost) → one.free ≡ pos 0 → steps_of (one_step one.cost one.free) [] ≡ []
no_step one e = rw (test_no (pos 0) one.free (omega (arith, ints)))

module _ (one : OneCost) (low' : ℕ) (a : CostArc) (total : ℤ) (s : AreSound (shape_numbers (plain one)))
    (h : IsCostArc a) (e : total ≡ (pos one.low +ℤ one.free) +ℤ a.cap) (is : StaysPlain one a)
    (l : pos low' ≡ pos one.low +ℤ a.low) where
  -- the numbers with this free capacity after the arc was added
  abbrev grown : ℤ → OneCost
  grown free = record { low = low'; cost = a.cost; free = free }

  some_free : pos 0 ≤ℤ one.free
  some_free = omega (arith, ints, steps_some (steps_of (one_step one.cost one.free) []) s.ascending)

  -- the free capacity of the arc is added to the breakpoints
  some_put : (room : ℤ) → pos 0 <ℤ room
      → steps_of (one_step a.cost (one.free +ℤ room)) []
      ≡ put_step (steps_of (one_step one.cost one.free) []) (a.cost, room)
  some_put room r =
      let f = some_free in
      by_lt_z (pos 0) one.free (λ lt. by is.same lt)
      (λ le.
      let none : one.free ≡ pos 0 = omega (arith, ints) in
      let same : one.free +ℤ room ≡ room = omega (arith, ints) in
      rw (some_step (grown (one.free +ℤ room)) (omega (arith, ints)), no_step one none, same))
    where
      by : (a.cost ≡ one.cost) ⊎ ((one.low ≡ 0) × (one.free ≡ pos 0)) → pos 0 <ℤ one.free
          → steps_of (one_step a.cost (one.free +ℤ room)) []
          ≡ put_step (steps_of (one_step one.cost one.free) []) (a.cost, room)
      by (inl at) lt =
          let more = some_step (grown (one.free +ℤ room)) (omega (arith, ints)) in
          rw (more, some_step one lt, put_at (one.cost, one.free) (a.cost, room) [] at, at)
      by (inr none) lt = absurd (omega (arith, ints))

  none_put : steps_of (one_step a.cost one.free) [] ≡ steps_of (one_step one.cost one.free) []
  none_put =
      let f = some_free in
      by_lt_z (pos 0) one.free (λ lt. by is.same lt)
      (λ le. rw (no_step (grown one.free) (omega (arith, ints)), no_step one (omega (arith, ints))))
    where
      by : (a.cost ≡ one.cost) ⊎ ((one.low ≡ 0) × (one.free ≡ pos 0)) → pos 0 <ℤ one.free
          → steps_of (one_step a.cost one.free) [] ≡ steps_of (one_step one.cost one.free) []
      by (inl at) lt = rw (some_step (grown one.free) lt, some_step one lt, at)
      by (inr none) lt = absurd (omega (arith, ints))

  steps_grown : steps_of (one_step a.cost (one.free +ℤ (a.cap -ℤ a.low))) []
      ≡ add_step (steps_of (one_step one.cost one.free) []) (a.cost, a.cap -ℤ a.low)
  steps_grown =
      by_lt_z (pos 0) (a.cap -ℤ a.low)
      (λ lt. rw (test_yes (pos 0) (a.cap -ℤ a.low) lt) (some_put (a.cap -ℤ a.low) lt))
      (λ le.
      let same : one.free +ℤ (a.cap -ℤ a.low) ≡ one.free = omega (arith, ints) in
      rw (test_no (pos 0) (a.cap -ℤ a.low) le, same) none_put)

  cost_grown : pos low' *ℤ a.cost ≡ (pos one.low *ℤ one.cost) +ℤ (a.low *ℤ a.cost)
  cost_grown =
      ap (λ z. z *ℤ a.cost) l ∙ *ℤ_comm (pos one.low +ℤ a.low) a.cost ∙ mul_add a.cost (pos one.low) a.low
      ∙ ap (λ z. z +ℤ (a.cost *ℤ a.low)) (*ℤ_comm a.cost (pos one.low) ∙ same is.same)
      ∙ ap (λ z. (pos one.low *ℤ one.cost) +ℤ z) (*ℤ_comm a.cost a.low)
    where
      same : (a.cost ≡ one.cost) ⊎ ((one.low ≡ 0) × (one.free ≡ pos 0))
          → pos one.low *ℤ a.cost ≡ pos one.low *ℤ one.cost
      same (inl at) = ap (λ z. pos one.low *ℤ z) at
      same (inr none) = rw none.0 (zero-*ℤ a.cost ∙ sym (zero-*ℤ one.cost))

  pub plain_grown : IsGrown (shape_numbers (plain one)) a (shape_numbers (plain (grown (one.free +ℤ (a.cap -ℤ a.low)))))
  plain_grown = record { units = l; cost = cost_grown; total = omega (arith, ints); steps = steps_grown }

  pub room_fits_plain : FitsSigned w64 total → FitsSigned w64 (one.free +ℤ (a.cap -ℤ a.low))
  room_fits_plain f =
      let fr = some_free in
      let m = most total f in
      fits_some (one.free +ℤ (a.cap -ℤ a.low)) (omega (arith, ints)) (omega (arith, ints))

-- an arc without capacity leaves the numbers as they are
pub nothing_grown : (n : Numbers) (a : CostArc) → IsCostArc a → FitsSigned w64 a.cap
    → of_z w64 a.cap ≡ of_z w64 (pos 0) → IsGrown n a n
nothing_grown n a h f e =
    let cap : a.cap ≡ pos 0 = sym (to_z-of_z w64 a.cap f) ∙ ap (to_z w64) e in
    let low : a.low ≡ pos 0 = omega (arith, ints, h.some) in
    record {
      units = omega (arith, ints);
      cost = rw (low, zero-*ℤ a.cost) (omega (arith, ints));
      total = omega (arith, ints);
      steps = rw (test_no (pos 0) (a.cap -ℤ a.low) (omega (arith, ints))) refl;
    }

-- numbers that the code makes are those of a shape
pub same_sound : (n : Numbers) (u c t : ℤ) (l : List (ℤ × ℤ)) → u ≡ n.units → c ≡ n.cost → t ≡ n.total → l ≡ n.steps
    → AreSound n → IsSound u c t l
same_sound n u c t l eu ec et el s = rw (eu, ec, et, el) s

pub same_grown : (n old new : Numbers) (a : CostArc) → old.units ≡ n.units → old.cost ≡ n.cost → old.total ≡ n.total
    → old.steps ≡ n.steps → IsGrown old a new → IsGrown n a new
same_grown n old new a eu ec et el g = record {
  units = rw eu at g.units;
  cost = rw ec at g.cost;
  total = rw et at g.total;
  steps = rw el at g.steps;
}

-- the numbers that the code makes of a plain shape
module _ (one : OneCost) (units cost : ℤ) (s : AreSound (shape_numbers (plain one))) (eu : units ≡ pos one.low)
    (ec : cost ≡ to_z w64 (of_z w64 units) *ℤ one.cost) (fu : FitsSigned w64 units) (fc : FitsSigned w128 cost)
    (fs : FitsSigned w64 one.free) where
  pub made_units : to_z w64 (of_z w64 units) ≡ pos one.low
  made_units = to_z-of_z w64 units fu ∙ eu

  pub made_cost : to_z w128 (of_z w128 cost) ≡ pos one.low *ℤ one.cost
  made_cost = to_z-of_z w128 cost fc ∙ rw made_units at ec

  total_fits : FitsSigned w64 (pos one.low +ℤ one.free)
  total_fits =
      let left = steps_some (steps_of (one_step one.cost one.free) []) s.ascending in
      fits_some (pos one.low +ℤ one.free) (omega (arith, ints)) s.most

  pub made_total : to_z w64 (of_z w64 (to_z w64 (of_z w64 units) +ℤ to_z w64 (of_z w64 one.free)))
      ≡ pos one.low +ℤ one.free
  made_total = rw (made_units, to_z-of_z w64 one.free fs) (to_z-of_z w64 (pos one.low +ℤ one.free) total_fits)

-- LOW as the code adds it
abs_is : (z : ℤ) → pos 0 ≤ℤ z → pos (nat_abs z) ≡ z
abs_is (pos n) h = refl
abs_is (negsuc n) h = absurd (omega (arith, ints))

-- a plain shape to which the code adds an arc
module _ (shape : Shape) (one : OneCost) (a : CostArc) (total : ℤ) (is : shape ≡ plain one)
    (s : AreSound (shape_numbers shape)) (h : IsCostArc a) (e : total ≡ (shape_numbers shape).total +ℤ a.cap)
    (w : StaysPlain one a) (f : FitsSigned w64 total) (fk : FitsSigned w64 a.cost) (fl : FitsSigned w64 a.low)
    (fc : FitsSigned w64 a.cap) (fs : FitsSigned w64 one.free) where
  sound_plain : AreSound (shape_numbers (plain one))
  sound_plain = rw is at s

  total_plain : total ≡ (pos one.low +ℤ one.free) +ℤ a.cap
  total_plain = rw is at e

  low_is : pos (one.low + nat_abs (to_z w64 (of_z w64 a.low))) ≡ pos one.low +ℤ a.low
  low_is = rw (to_z-of_z w64 a.low fl) (ap (λ z. pos one.low +ℤ z) (abs_is a.low h.some))

  room_is : to_z w64 (of_z w64 (to_z w64 (of_z w64 a.cap) -ℤ to_z w64 (of_z w64 a.low))) ≡ a.cap -ℤ a.low
  room_is =
      let m = most a.cap fc in
      let f = fits_some (a.cap -ℤ a.low) (omega (arith, ints)) (omega (arith, ints)) in
      simp to_z-of_z

  sum_fits : FitsSigned w64 (one.free +ℤ (a.cap -ℤ a.low))
  sum_fits = room_fits_plain one _ a total sound_plain h total_plain w low_is f

  sum_same : to_z w64 (of_z w64 one.free)
      +ℤ to_z w64 (of_z w64 (to_z w64 (of_z w64 a.cap) -ℤ to_z w64 (of_z w64 a.low)))
      ≡ one.free +ℤ (a.cap -ℤ a.low)
  sum_same = rw (to_z-of_z w64 one.free fs, room_is)

  pub plain_sum_fits : FitsSigned w64 (to_z w64 (of_z w64 one.free)
      +ℤ to_z w64 (of_z w64 (to_z w64 (of_z w64 a.cap) -ℤ to_z w64 (of_z w64 a.low))))
  plain_sum_fits = rw sum_same sum_fits

  abbrev made : OneCost
  made = record {
    low = one.low + nat_abs (to_z w64 (of_z w64 a.low));
    cost = to_z w64 (of_z w64 a.cost);
    free =
        to_z w64
        (of_z w64 (to_z w64 (of_z w64 one.free) +ℤ to_z w64
        (of_z w64 (to_z w64 (of_z w64 a.cap) -ℤ to_z w64 (of_z w64 a.low)))));
  }

  made_is : ◌≡◌ {A = OneCost}
      (record { low = made.low; cost = a.cost; free = one.free +ℤ (a.cap -ℤ a.low) }) made
  made_is = rw (sum_same, to_z-of_z w64 a.cost fk, to_z-of_z w64 (one.free +ℤ (a.cap -ℤ a.low)) sum_fits)

  pub plain_taken : IsGrown (shape_numbers shape) a (shape_numbers (plain made))
  plain_taken =
      rw is (subst (λ o. IsGrown (shape_numbers (plain one)) a (shape_numbers (plain o))) made_is
      (plain_grown one _ a total sound_plain h total_plain w low_is))
