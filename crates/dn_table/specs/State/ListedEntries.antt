-- How many entries the bundles of a table make.
use Rattle.std.specs.Prelude.{ℕ, ℤ, List, sum_by}

-- the sum of this number over the bundles of a table
abbrev pub entries_listed : {B : Type 0} → (B → ℕ) → List ((ℤ × ℤ) × B) → ℕ
entries_listed each table = sum_by (λ e. each e.1) table
