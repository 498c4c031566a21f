-- The fixed and the free parts of arcs. Each part is a fixed or a free arc, and arcs whose free capacity is sorted by
-- ascending cost are filled as these parts.
use Rattle.std.proofs.Common.{◌≡◌, ℤ, pos, ◌+ℤ◌, ◌-ℤ◌, ◌*ℤ◌, ◌≤ℤ◌, ◌<ℤ◌, List, [], ◌∷◌, filter, map, int_lt, refl, true, false, ap, arith, ◌∙◌}
use Rattle.std.proofs.lemmas.Int.{ints, by_lt_z}
use Rattle.std.specs.List.{AllByRecursion}
use Rattle.dn_arc_theory.specs.declared.arc.CostArc.{CostArc}
use Rattle.dn_arc_theory.specs.Canonical.{IsFixedArc, IsFreeArc, AreNear, AreAscending, has_low}
use Rattle.dn_arc_theory.specs.Entries.{has_room}
use Rattle.dn_arc_theory.specs.Fillings.{forced_units, forced_cost}
use Rattle.dn_arc_theory.specs.State.FillCosts.{room, free_room, fill_cost}
use Rattle.dn_arc_theory.proofs.FillsLaws.{AreOrdered}
use Rattle.dn_arc_theory.proofs.FormsLaws.{AreAbove, AreFree, AreFixed, IsApart, fill_past}

pub test_yes : (x y : ℤ) → x <ℤ y → int_lt x y ≡ true
test_yes x y h = grind (arith, ints)

pub test_no : (x y : ℤ) → y ≤ℤ x → int_lt x y ≡ false
test_no x y h = grind (arith, ints)

-- the fixed part and the free part of an arc
abbrev pub fixed_part : CostArc → CostArc
fixed_part a = record { low = a.low; cap = a.low; cost = a.cost }

abbrev pub free_part : CostArc → CostArc
free_part a = record { low = pos 0; cap = room a; cost = a.cost }

-- the fixed parts and the free parts of arcs
abbrev pub fixed_parts : List CostArc → List CostArc
fixed_parts arcs = map fixed_part (filter has_low arcs)

abbrev pub free_parts : List CostArc → List CostArc
free_parts arcs = map free_part (filter has_room arcs)

pub each_fixed_part : (xs : List CostArc) → AllByRecursion IsFixedArc (fixed_parts xs)
each_fixed_part [] = tt
each_fixed_part (a ∷ rest) =
    by_lt_z (pos 0) a.low (λ lt. rw test_yes (record { some = omega (arith, ints); full = refl }, each_fixed_part rest))
    (λ le. rw test_no (each_fixed_part rest))

near_parts : (xs : List CostArc) → AreNear xs → AreNear (map fixed_part xs)
near_parts [] n = tt
near_parts (a ∷ []) n = tt
near_parts (a ∷ b ∷ []) n = n
near_parts (a ∷ b ∷ c ∷ rest) n = absurd n

pub parts_fixed : (xs : List CostArc) → AreNear (filter has_low xs) → AreFixed (fixed_parts xs)
parts_fixed xs n = record { each = each_fixed_part xs; near = near_parts (filter has_low xs) n }

above_parts : (c : ℤ) (xs : List CostArc) → AreAbove c xs → AreAbove c (free_parts xs)
above_parts c [] h = tt
above_parts c (a ∷ rest) h =
    by_lt_z a.low a.cap (λ lt. rw test_yes (h.0, above_parts c rest h.1)) (λ le. rw test_no (above_parts c rest h.1))

each_free_part : (xs : List CostArc) → AllByRecursion IsFreeArc (free_parts xs)
each_free_part [] = tt
each_free_part (a ∷ rest) =
    by_lt_z a.low a.cap (λ lt. rw test_yes (record { none = refl; room = omega (arith, ints) }, each_free_part rest))
    (λ le. rw test_no (each_free_part rest))

ascending_parts : (xs : List CostArc) → AreAscending xs → AreAscending (free_parts xs)
ascending_parts [] r = tt
ascending_parts (a ∷ rest) r =
    by_lt_z a.low a.cap (λ lt. rw test_yes (above_parts a.cost rest r.0, ascending_parts rest r.1))
    (λ le. rw test_no (ascending_parts rest r.1))

pub parts_free : (xs : List CostArc) → AreAscending xs → AreFree (free_parts xs)
parts_free xs r = record { each = each_free_part xs; ascending = ascending_parts xs r }

units_parts : (xs : List CostArc) → AreOrdered xs → forced_units xs ≡ forced_units (fixed_parts xs)
units_parts [] o = refl
units_parts (a ∷ rest) o =
    let i = units_parts rest o.2 in
    by_lt_z (pos 0) a.low (λ lt. rw (test_yes, i)) (λ le. rw test_no (omega (arith, ints)))

cost_parts : (xs : List CostArc) → AreOrdered xs → forced_cost xs ≡ forced_cost (fixed_parts xs)
cost_parts [] o = refl
cost_parts (a ∷ rest) o =
    let i = cost_parts rest o.2 in
    by_lt_z (pos 0) a.low (λ lt. rw (test_yes, i))
    (λ le.
    let none : a.low ≡ pos 0 = omega (arith, ints) in
    rw (test_no, none) (omega (arith, ints)))

pub room_parts : (xs : List CostArc) → AreOrdered xs → free_room xs ≡ free_room (free_parts xs)
room_parts [] o = refl
room_parts (a ∷ rest) o =
    let i = room_parts rest o.2 in
    by_lt_z a.low a.cap (λ lt. rw test_yes (omega (arith, ints))) (λ le. rw test_no (omega (arith, ints)))

pub fill_parts : (xs : List CostArc) → AreOrdered xs → (y : ℤ) → pos 0 ≤ℤ y
    → fill_cost xs y ≡ fill_cost (free_parts xs) y
fill_parts [] o y h = refl
fill_parts (a ∷ rest) o y h =
    by_lt_z a.low a.cap
    (λ lt.
    let same : room (free_part a) ≡ room a = omega (arith, ints) in
    rw (test_yes a.low a.cap lt, same) (by_lt_z (room a) y
    (λ past. rw test_yes (ap (λ z. (a.cost *ℤ room a) +ℤ z) (fill_parts rest o.2 (y -ℤ room a) (omega (arith, ints)))))
    (λ within. rw test_no)))
    (λ le. rw (test_no a.low a.cap le) (fill_past a rest y o.2 (omega (arith, ints)) h ∙ fill_parts rest o.2 y h))

-- sorted arcs are filled as their fixed and their free parts
pub apart_parts : (xs : List CostArc) → AreOrdered xs → IsApart xs (fixed_parts xs) (free_parts xs)
apart_parts xs o =
    record { units = units_parts xs o; cost = cost_parts xs o; room = room_parts xs o; fill = fill_parts xs o }
