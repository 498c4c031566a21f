-- How many entries the arcs of one ordered pair make, which is what must be kept of them, and which arc of a `min` pair
-- needs memory besides (this project's profile).
use Rattle.std.specs.Prelude.{◌≡◌, ◌⊎◌, ◌-◌, ◌^◌, ℕ, ◌+◌, ℤ, pos, ◌+ℤ◌, ◌*ℤ◌, ◌<ℤ◌, List, [], ◌∷◌, length, Bool, cond, filter, map, int_lt}
use Rattle.std.specs.List.{list_any}
use Rattle.std.specs.Ordering.{int_eq}
use Rattle.dn_arc_theory.specs.Capacities.{total_cap}
use Rattle.dn_arc_theory.specs.Canonical.{has_low}
use Rattle.dn_arc_theory.specs.Fillings.{forced_units, forced_cost}
use Rattle.dn_arc_theory.specs.declared.arc.LengthArc.{LengthArc}
use Rattle.dn_arc_theory.specs.declared.arc.CapArc.{CapArc}
use Rattle.dn_arc_theory.specs.declared.arc.CostArc.{CostArc}

-- the elements of a list without repeats
abbrev pub distinct : {A : Type 0} → (A → A → Bool) → List A → List A
distinct same [] = []
distinct same (x ∷ xs) = cond (list_any (same x) xs) (distinct same xs) (x ∷ distinct same xs)

-- `sp`: one entry if there is an arc
abbrev pub length_entries : List LengthArc → ℕ
length_entries [] = 0
length_entries (a ∷ rest) = 1

-- `max`: one entry if the total capacity is above 0
abbrev pub cap_entries : List CapArc → ℕ
cap_entries arcs = cond (int_lt (pos 0) (total_cap arcs)) 1 0

-- an arc has free capacity if its CAP is above its LOW
abbrev pub has_room : CostArc → Bool
has_room a = int_lt a.low a.cap

-- the different costs of the arcs that have free capacity
abbrev pub free_costs : List CostArc → List ℤ
free_costs arcs = distinct int_eq (map (λ (a : CostArc). a.cost) (filter has_room arcs))

-- `min`: one entry if a LOW is above 0, and one for each different cost of free capacity
abbrev pub cost_entries : List CostArc → ℕ
cost_entries arcs = cond (list_any has_low arcs) 1 0 + length (free_costs arcs)

-- `min`: the arc adds to forced units that are there, at another cost per unit than theirs, or to more than 2^32 - 1
pub record SpreadsForced (arcs : List CostArc) (a : CostArc) : Type 0 where
  pub there : pos 0 <ℤ forced_units arcs
  pub adds : pos 0 <ℤ a.low
  pub other : (forced_cost arcs ≡ forced_units arcs *ℤ a.cost → ⊥)
      ⊎ (pos (2 ^ 32 - 1) <ℤ (forced_units arcs +ℤ a.low))
