-- Canonical arcs of a `min` pair may occur in a problem, and their free capacity is sorted by ascending cost. Arcs of
-- form 1 are filled as their fixed and their free arcs.
use Rattle.std.proofs.Common.{◌≡◌, ℤ, pos, ◌+ℤ◌, ◌-ℤ◌, ◌*ℤ◌, ◌≤ℤ◌, ◌<ℤ◌, List, [], ◌∷◌, ◌++◌, refl, ap, arith, ◌∙◌}
use Rattle.std.proofs.lemmas.Int.{ints, by_lt_z}
use Rattle.std.specs.List.{AllByRecursion}
use Rattle.dn_arc_theory.specs.declared.arc.CostArc.{CostArc}
use Rattle.dn_arc_theory.specs.Canonical.{IsCostArc, IsFixedArc, IsFreeArc, IsMixedArc, AreNear, AreAscending, IsFormOne, IsFormTwo}
use Rattle.dn_arc_theory.specs.Fillings.{forced_units, forced_cost}
use Rattle.dn_arc_theory.specs.State.FillCosts.{room, free_room, fill_cost}
use Rattle.dn_arc_theory.proofs.FillsLaws.{NoneCheaper, AreOrdered, fill_low, fill_high, fill_zero}

-- each cost is above c
abbrev pub AreAbove : ℤ → List CostArc → Type 0
AreAbove c arcs = AllByRecursion (λ (b : CostArc). c <ℤ b.cost) arcs

-- free arcs by strictly ascending cost
pub record AreFree (arcs : List CostArc) : Type 0 where
  pub each : AllByRecursion IsFreeArc arcs
  pub ascending : AreAscending arcs

-- at most two fixed arcs, of costs c and c + 1
pub record AreFixed (arcs : List CostArc) : Type 0 where
  pub each : AllByRecursion IsFixedArc arcs
  pub near : AreNear arcs

pub rest_free : (a : CostArc) (rest : List CostArc) → AreFree (a ∷ rest) → AreFree rest
rest_free a rest f = record { each = f.each.1; ascending = f.ascending.1 }

pub fixed_of : (arcs : List CostArc) (f : IsFormOne arcs) → AreFixed f.fixed
fixed_of arcs f = record { each = f.each_fixed; near = f.near }

pub free_of : (arcs : List CostArc) (f : IsFormOne arcs) → AreFree f.free
free_of arcs f = record { each = f.each_free; ascending = f.ascending }

pub above_lower : (c d : ℤ) (xs : List CostArc) → c <ℤ d → AreAbove d xs → AreAbove c xs
above_lower c d [] h a = tt
above_lower c d (x ∷ xs) h a = (omega (arith, ints), above_lower c d xs h a.1)

none_cheaper : (c : ℤ) (arcs : List CostArc) → AreAbove c arcs → NoneCheaper c arcs
none_cheaper c [] h = tt
none_cheaper c (a ∷ rest) h = ((λ some. let le : c ≤ℤ a.cost = omega (arith, ints) in le), none_cheaper c rest h.1)

pub free_arc_is : (a : CostArc) → IsFreeArc a → IsCostArc a
free_arc_is a f = record { some = omega (arith, ints); room = omega (arith, ints) }

pub fixed_arc_is : (a : CostArc) → IsFixedArc a → IsCostArc a
fixed_arc_is a f = record { some = omega (arith, ints); room = omega (arith, ints) }

pub free_ordered : (arcs : List CostArc) → AreFree arcs → AreOrdered arcs
free_ordered [] f = tt
free_ordered (a ∷ rest) f =
    (free_arc_is a f.each.0, (λ some. none_cheaper a.cost rest f.ascending.0), free_ordered rest (rest_free a rest f))

fixed_before : (fixed free : List CostArc) → AllByRecursion IsFixedArc fixed → AreOrdered free
    → AreOrdered (fixed ++ free)
fixed_before [] free f o = o
fixed_before (a ∷ rest) free f o =
    (fixed_arc_is a f.0, (λ some. absurd (omega (arith, ints))), fixed_before rest free f.1 o)

pub form_one_ordered : (arcs : List CostArc) → IsFormOne arcs → AreOrdered arcs
form_one_ordered arcs f = rw f.parts (fixed_before f.fixed f.free f.each_fixed (free_ordered f.free (free_of arcs f)))

pub mixed_ordered : (arcs : List CostArc) → AllByRecursion IsMixedArc arcs → AreAscending arcs → AreOrdered arcs
mixed_ordered [] m r = tt
mixed_ordered (a ∷ rest) m r = (m.0.is_arc, (λ some. none_cheaper a.cost rest r.0), mixed_ordered rest m.1 r.1)

pub form_two_ordered : (arcs : List CostArc) → IsFormTwo arcs → AreOrdered arcs
form_two_ordered arcs f = mixed_ordered arcs f.each f.ascending

each_ordered_arc : (arcs : List CostArc) → AreOrdered arcs → AllByRecursion IsCostArc arcs
each_ordered_arc [] o = tt
each_ordered_arc (a ∷ rest) o = (o.0, each_ordered_arc rest o.2)

pub form_one_arcs : (arcs : List CostArc) → IsFormOne arcs → AllByRecursion IsCostArc arcs
form_one_arcs arcs f = each_ordered_arc arcs (form_one_ordered arcs f)

pub form_two_arcs : (arcs : List CostArc) → IsFormTwo arcs → AllByRecursion IsCostArc arcs
form_two_arcs arcs f = each_ordered_arc arcs (form_two_ordered arcs f)

-- filling the arcs is the same as sending the fixed arcs' units and filling the free arcs
pub record IsApart (arcs fixed free : List CostArc) : Type 0 where
  pub units : forced_units arcs ≡ forced_units fixed
  pub cost : forced_cost arcs ≡ forced_cost fixed
  pub room : free_room arcs ≡ free_room free
  pub fill : (y : ℤ) → pos 0 ≤ℤ y → fill_cost arcs y ≡ fill_cost free y

free_apart : (free : List CostArc) → AllByRecursion IsFreeArc free → IsApart free [] free
free_apart [] f = record { units = refl; cost = refl; room = refl; fill = λ y h. refl }
free_apart (a ∷ rest) f =
    let i = free_apart rest f.1 in
    let p = ap (λ z. a.cost *ℤ z) f.0.none in
    record { units = omega (arith, ints); cost = omega (arith, ints); room = refl; fill = λ y h. refl }

none_past : (p u fx f1 f2 : ℤ) → u ≡ pos 0 → fx ≡ (p *ℤ u) +ℤ f1 → f1 ≡ f2 → fx ≡ f2
none_past p u fx f1 f2 h e g = omega (arith, ints, ap (λ z. p *ℤ z) h)

-- filling skips an arc without free capacity
pub fill_past : (a : CostArc) (rest : List CostArc) (y : ℤ) → AreOrdered rest → room a ≡ pos 0 → pos 0 ≤ℤ y
    → fill_cost (a ∷ rest) y ≡ fill_cost rest y
fill_past a rest y o none h =
    by_lt_z (room a) y
    (λ past. none_past a.cost (room a) _ _ _ none (fill_high a rest y past)
    (ap (fill_cost rest) (let e : y -ℤ room a ≡ y = omega (arith, ints) in e)))
    (λ within.
    let nothing : y ≡ pos 0 = omega (arith, ints) in
    let e = fill_low a rest y within in
    let m = ap (λ z. a.cost *ℤ z) nothing in
    omega (arith, ints, fill_zero rest o, ap (fill_cost rest) nothing))

pub apart : (fixed free : List CostArc) → AllByRecursion IsFixedArc fixed → AreFree free
    → IsApart (fixed ++ free) fixed free
apart [] free f g = free_apart free g.each
apart (a ∷ rest) free f g =
    let i = apart rest free f.1 g in
    record {
      units = ap (λ z. a.low +ℤ z) i.units;
      cost = ap (λ z. (a.cost *ℤ a.low) +ℤ z) i.cost;
      room = omega (arith, ints);
      fill =
          λ y h. fill_past a (rest ++ free) y (fixed_before rest free f.1 (free_ordered free g)) (omega (arith, ints)) h
          ∙ i.fill y h;
    }

pub apart_form : (arcs : List CostArc) (f : IsFormOne arcs) → IsApart arcs f.fixed f.free
apart_form arcs f = rw f.parts (apart f.fixed f.free f.each_fixed (free_of arcs f))
