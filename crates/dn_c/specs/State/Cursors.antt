-- Cursors of a walk over canonical arcs.
use Rattle.std.specs.Prelude.{ℕ, ℤ, List, Option, None, Some, cond, nat_eq, min, pos, ◌+◌, ◌-◌, ◌^◌}
use Rattle.dn_arc_theory.specs.declared.arc.LengthArc.{LengthArc}
use Rattle.dn_arc_theory.specs.declared.arc.CapArc.{CapArc}
use Rattle.dn_arc_theory.specs.declared.arc.CostArc.{CostArc}
use Rattle.dn_c.specs.State.Rows.{number_at}
use Rattle.dn_c.specs.declared.cursor.Cursor.{Cursor}

-- the arc with the numbers of a cursor
abbrev pub length_at : Cursor → LengthArc
length_at p = record { length = p.a }

abbrev pub cap_at : Cursor → CapArc
cap_at p = record { cap = p.a }

abbrev pub cost_at : Cursor → CostArc
cost_at p = record { low = p.a; cap = p.b; cost = p.c }

-- the last arc before the cursor of the pair that it is within, if it is within one
abbrev pub last_before : {A : Type 0} → (Cursor → A) → Cursor → Option A
last_before arc p = cond (nat_eq p.within 0) None (Some (arc p))

-- the cursor after the arc with these numbers of the pair at this index
abbrev pub cursor_with : ℕ → List ℤ → Cursor
cursor_with index numbers = record {
  pairs = index;
  within = 1;
  a = number_at numbers 0;
  b = number_at numbers 1;
  c = number_at numbers 2;
}

-- the cursor after this arc of the pair at this index, or before all arcs of that pair
abbrev pub cursor_after : {A : Type 0} → (A → List ℤ) → ℕ → Option A → Cursor
cursor_after numbers index None = record { pairs = index; within = 0; a = pos 0; b = pos 0; c = pos 0 }
cursor_after numbers index (Some x) = cursor_with index (numbers x)

-- the cursor behind one more item: so many items are before it, and this is the ID of the last of them
abbrev pub behind : Cursor → ℤ → Cursor
behind p id = record { pairs = min (p.pairs + 1) (2 ^ 64 - 1); within = 1; a = id; b = pos 0; c = pos 0 }
