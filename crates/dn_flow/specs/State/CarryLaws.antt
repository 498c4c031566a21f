-- Laws of what the arcs of each kind can carry, which the bundles give as laws of their own.
use Rattle.std.proofs.Common.{inl, inr, ◌≡◌, ℤ, pos, ◌≤ℤ◌, ◌<ℤ◌, List, [], ◌∷◌, int_lt, refl, arith}
use Rattle.std.proofs.lemmas.Bool.{cases_Bool}
use Rattle.std.proofs.lemmas.Int.{by_lt_z, ints}
use Rattle.std.specs.List.{AllByRecursion}
use Rattle.std.specs.Int.Signed.{≤ℤ_refl}
use Rattle.dn_arc_theory.specs.Canonical.{IsCapArc, IsCostArc}
use Rattle.dn_arc_theory.specs.Capacities.{total_cap}
use Rattle.dn_arc_theory.specs.Fillings.{forced_units}
use Rattle.dn_arc_theory.specs.Lengths.{LeastLength}
use Rattle.dn_arc_theory.specs.Meanings.{SameCurve, SameLength, SameTotal}
use Rattle.dn_arc_theory.specs.State.FillCosts.{room}
use Rattle.dn_arc_theory.specs.State.Steps.{put_step}
use Rattle.dn_arc_theory.specs.declared.arc.LengthArc.{LengthArc}
use Rattle.dn_arc_theory.specs.declared.arc.CapArc.{CapArc}
use Rattle.dn_arc_theory.specs.declared.arc.CostArc.{CostArc}
use Rattle.dn_arc_theory.proofs.CanonsLaws.{arc_steps, same_canon}
use Rattle.dn_arc_theory.proofs.TotalKindLaws.{total_some}
use Rattle.dn_flow.specs.State.Spreads.{cap_carried, cost_carried, length_carried}

pub lengths_carry : (a : LengthArc) → Unit {0} → IsCostArc (length_carried a)
lengths_carry a h = record { some = ≤ℤ_refl _; room = omega (arith, ints) }

pub caps_carry : (a : CapArc) → IsCapArc a → IsCostArc (cap_carried a)
caps_carry a h = record { some = ≤ℤ_refl _; room = h.some }

pub costs_carry : (a : CostArc) → IsCostArc a → IsCostArc (cost_carried a)
costs_carry a h = h

-- a list that has an arc has a least length
least_length : (a : LengthArc) (rest : List LengthArc) → (w : ℤ) × LeastLength (a ∷ rest) w
least_length a [] = (a.length, record { has = inl refl; least = (≤ℤ_refl _, tt) })
least_length a (b ∷ rest) =
    let l = least_length b rest in
    by_lt_z a.length l.0
    (λ lt. (a.length, record { has = inl refl; least = (≤ℤ_refl _, longer a.length l.0 (b ∷ rest) lt l.1.least) }))
    (λ le. (l.0, record { has = inr l.1.has; least = (le, l.1.least) }))
  where
    longer : (v w : ℤ) (xs : List LengthArc) → v <ℤ w → AllByRecursion (λ (a : LengthArc). w ≤ℤ a.length) xs
        → AllByRecursion (λ (a : LengthArc). v ≤ℤ a.length) xs
    longer v w [] lt h = tt
    longer v w (x ∷ xs) lt h = (omega (arith, ints, lt, h.0), longer v w xs lt h.1)

pub lengths_nothing : (arcs : List LengthArc) → AllByRecursion (λ a. Unit {0}) arcs → SameLength arcs []
    → AllByRecursion (λ a. ((length_carried a).low ≡ pos 0) × ((length_carried a).cap ≡ pos 0)) arcs
lengths_nothing [] h s = tt
lengths_nothing (a ∷ rest) h s = let l = least_length a rest in absurd ((s.there l.0 l.1).has)

pub caps_nothing : (arcs : List CapArc) → AllByRecursion IsCapArc arcs → SameTotal arcs []
    → AllByRecursion (λ a. ((cap_carried a).low ≡ pos 0) × ((cap_carried a).cap ≡ pos 0)) arcs
caps_nothing arcs h s = each arcs h s.is
  where
    each : (arcs : List CapArc) → AllByRecursion IsCapArc arcs → total_cap arcs ≡ pos 0
        → AllByRecursion (λ a. ((cap_carried a).low ≡ pos 0) × ((cap_carried a).cap ≡ pos 0)) arcs
    each [] h e = tt
    each (a ∷ rest) h e =
        let some = total_some rest h.1 in
        let one = h.0.some in
        ((refl, omega (arith, ints, some, one, e)), each rest h.1 (omega (arith, ints, some, one, e)))

pub forced_some : (arcs : List CostArc) → AllByRecursion IsCostArc arcs → pos 0 ≤ℤ forced_units arcs
forced_some [] h = ≤ℤ_refl _
forced_some (a ∷ rest) h = omega (arith, ints, h.0.some, forced_some rest h.1)

put_some : (steps : List (ℤ × ℤ)) (more : ℤ × ℤ) → put_step steps more ≡ [] → ⊥
put_some [] more e = cc
put_some (step ∷ rest) more e = elim (cases_Bool (int_lt more.0 step.0)) [
  | inl t ↦ let clash = rw t at e in cc
  | inr t ↦ elim (cases_Bool (int_lt step.0 more.0)) [
    | inl u ↦ let clash = rw (t, u) at e in cc
    | inr u ↦ let clash = rw (t, u) at e in cc
  ]
]

pub costs_nothing : (arcs : List CostArc) → AllByRecursion IsCostArc arcs → SameCurve arcs []
    → AllByRecursion (λ a. ((cost_carried a).low ≡ pos 0) × ((cost_carried a).cap ≡ pos 0)) arcs
costs_nothing arcs h s = let c = same_canon arcs [] h tt s in each arcs h c.units c.steps
  where
    each : (arcs : List CostArc) → AllByRecursion IsCostArc arcs → forced_units arcs ≡ pos 0 → arc_steps arcs ≡ []
        → AllByRecursion (λ a. ((cost_carried a).low ≡ pos 0) × ((cost_carried a).cap ≡ pos 0)) arcs
    each [] h u e = tt
    each (a ∷ rest) h u e =
        let some = forced_some rest h.1 in
        let low : a.low ≡ pos 0 = omega (arith, ints, some, h.0.some, u) in
        let rest_low : forced_units rest ≡ pos 0 = omega (arith, ints, low, u) in
        elim (cases_Bool (int_lt a.low a.cap)) [
          | inl t ↦ absurd (put_some (arc_steps rest) (a.cost, room a) (rw t at e))
          | inr t ↦
              let full : a.cap ≡ pos 0 = omega (arith, ints, low, h.0.room, t) in
              ((low, full), each rest h.1 rest_low (rw t at e))
        ]
