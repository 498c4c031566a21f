-- How a curve stores its numbers: in a box, or as one cost with the forced units and the free capacity at it.
use Rattle.std.specs.Prelude.{◌≡◌, ◌⊎◌, ◌-◌, ◌^◌, ℕ, ℤ, pos, ◌+ℤ◌, ◌-ℤ◌, ◌*ℤ◌, ◌≤ℤ◌, ◌<ℤ◌, List, [], ◌∷◌, Option, Some, None, cond, int_lt, false}
use Rattle.dn_arc_theory.specs.declared.arc.CostArc.{CostArc}
use Rattle.dn_bundle.specs.declared.curve.shape.Numbers.{Numbers}
use Rattle.dn_bundle.specs.declared.curve.shape.OneCost.{OneCost}
use Rattle.dn_bundle.specs.declared.curve.shape.TwoCosts.{TwoCosts}
use Rattle.dn_bundle.specs.declared.curve.shape.Shape.{Shape}
use Rattle.dn_bundle.specs.declared.curve.shape.Shape.TheVariants.{Plain, Two, Full}
use Rattle.dn_arc_theory.specs.State.CurveListed.{IsSound}
use Rattle.dn_arc_theory.specs.State.Curves.{CurveNumbers}
use Rattle.dn_arc_theory.specs.State.Steps.{steps_of, add_step, has_step, steps_room}

-- the breakpoint of free capacity at one cost, if there is any
abbrev pub one_step : ℤ → ℤ → Option (ℤ × ℤ)
one_step cost free = cond (int_lt (pos 0) free) (Some (cost, free)) None

-- the numbers of free capacity alone
abbrev pub free_numbers : List (ℤ × ℤ) → Numbers
free_numbers steps = record { units = pos 0; cost = pos 0; total = steps_room steps; steps = steps }

-- the breakpoints of free capacity at two costs, of which the second is higher by this gap
abbrev pub two_steps : ℕ → ℤ → ℤ × ℤ → List (ℤ × ℤ)
two_steps gap cost free = (cost, free.0) ∷ (cost +ℤ pos gap, free.1) ∷ []

-- the numbers that a shape represents
abbrev pub shape_numbers : Shape → Numbers
shape_numbers (Plain low cost free) = record {
  units = pos low;
  cost = pos low *ℤ cost;
  total = pos low +ℤ free;
  steps = steps_of (one_step cost free) [];
}
shape_numbers (Two gap cost free) = free_numbers (two_steps gap cost free)
shape_numbers (Full numbers) = numbers.value

-- the shape of the numbers of a curve with one cost
abbrev pub plain : OneCost → Shape
plain one = Plain one.low one.cost one.free

-- the shape of the numbers of a curve with two costs
abbrev pub two : TwoCosts → Shape
two held = Two held.gap held.cost held.free

-- the numbers are those of a valid curve
abbrev pub AreSound : Numbers → Type 0
AreSound n = IsSound n.units n.cost n.total n.steps

-- the curve that a shape represents
abbrev pub curve_of : (shape : Shape) → AreSound (shape_numbers shape) → CurveNumbers
curve_of shape sound =
    let n = shape_numbers shape in
    record { units = n.units; cost = n.cost; total = n.total; steps = n.steps; sound = sound }

-- the new numbers have one more arc: its LOW is forced, and the rest of its CAP is free at its COST
pub record IsGrown (old : Numbers) (a : CostArc) (new : Numbers) : Type 0 where
  pub units : new.units ≡ old.units +ℤ a.low
  pub cost : new.cost ≡ old.cost +ℤ (a.low *ℤ a.cost)
  pub total : new.total ≡ old.total +ℤ a.cap
  pub steps : new.steps ≡ add_step old.steps (a.cost, a.cap -ℤ a.low)

-- a plain shape can take the arc: it has the cost of the arc, or no capacity, and its forced units fit 32 bits with LOW
pub record StaysPlain (one : OneCost) (a : CostArc) : Type 0 where
  pub few : (pos one.low +ℤ a.low) ≤ℤ pos (2 ^ 32 - 1)
  pub same : (a.cost ≡ one.cost) ⊎ ((one.low ≡ 0) × (one.free ≡ pos 0))

-- a plain shape may not be able to take the arc: its forced units do not fit 32 bits with a LOW above 0, or the costs
-- differ
abbrev pub LeavesPlain : OneCost → CostArc → Type 0
LeavesPlain one a =
    ((pos 0 <ℤ a.low) × (pos (2 ^ 32 - 1) <ℤ (pos one.low +ℤ a.low))) ⊎ (a.cost ≡ one.cost → ⊥)

-- the numbers of a curve need memory for the arc: it is the first with LOW above 0 or the first with free capacity at
-- its COST, or it adds to forced units, at another cost per unit or to more than 2^32 - 1
pub data NeedsRoom (units cost : ℤ) (steps : List (ℤ × ℤ)) (a : CostArc) : Type 0 where
  forced : units ≡ pos 0 → pos 0 <ℤ a.low → NeedsRoom units cost steps a
  free : pos 0 <ℤ (a.cap -ℤ a.low) → has_step steps a.cost ≡ false → NeedsRoom units cost steps a
  more : pos 0 <ℤ units → pos 0 <ℤ a.low
      → (cost ≡ units *ℤ a.cost → ⊥) ⊎ (pos (2 ^ 32 - 1) <ℤ (units +ℤ a.low)) → NeedsRoom units cost steps a

-- these numbers need memory for the arc
abbrev pub NeedRoom : Numbers → CostArc → Type 0
NeedRoom n = NeedsRoom n.units n.cost n.steps
