-- The arcs of a table as C has them.
use Rattle.std.specs.Prelude.{ℕ, ℤ, pos, List, map, get_or}
use Rattle.dn_c.specs.declared.arcs.Arc.{Arc}

-- the number at i, or 0
abbrev pub number_at : List ℤ → ℕ → ℤ
number_at numbers i = get_or numbers i (pos 0)

-- an arc with these numbers as C has it
abbrev pub row_of : ℤ × ℤ → List ℤ → Arc
row_of p numbers =
    record { tail = p.0; head = p.1; a = number_at numbers 0; b = number_at numbers 1; c = number_at numbers 2 }

-- arcs with their pairs as C has them
abbrev pub rows_by : {A : Type 0} → (A → List ℤ) → List ((ℤ × ℤ) × A) → List Arc
rows_by numbers arcs = map (λ a. row_of a.0 (numbers a.1)) arcs
