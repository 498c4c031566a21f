-- Walks over the canonical arcs of a table, which can go on from any arc.
use Rattle.std.specs.Prelude.{◌≡◌, ◌+◌, ℕ, ℤ, List, [], ◌∷◌, ◌++◌, take, drop, length, slice_get, Option, None, Some, MatchOption, All, Contains}
use Rattle.dn_arc_theory.specs.State.Bundles.{IsAfter}
use Rattle.dn_canon.specs.State.ListedArcs.{placed, listed_arcs}
use Rattle.dn_c.specs.State.Cursors.{last_before}
use Rattle.dn_c.specs.State.Rows.{rows_by}
use Rattle.dn_c.specs.declared.arcs.Arc.{Arc}
use Rattle.dn_c.specs.declared.cursor.Cursor.{Cursor}
use Rattle.dn_c.specs.declared.status.Count.{Count}

-- the option is the element after the last one that was taken, or the first if none was
abbrev pub IsNextArc : {A : Type 0} → List A → Option A → Option A → Type 0
IsNextArc xs last next = MatchOption last (next ≡ slice_get xs 0) (λ x. IsAfter xs x next)

-- what is left of these bundles, if this is the last arc that was taken of the first of them
abbrev pub IsLeft : {B A : Type 0} → (B → List A) → List ((ℤ × ℤ) × B) → Option A → List ((ℤ × ℤ) × A) → Type 0
IsLeft lists table None left = left ≡ listed_arcs lists table
IsLeft lists [] (Some x) left = ⊥
IsLeft {A = A} lists (e ∷ table) (Some x) left =
    (i : ℕ) × (slice_get (lists e.1) i ≡ Some x)
    × (left ≡ placed e.0 (drop (i + 1) (lists e.1)) ++ listed_arcs lists table)

-- the arc is the first of those that are left, and the others are left after it; or none is left
abbrev pub StepsArc : {B A : Type 0} → (B → List A) → List ((ℤ × ℤ) × B) → ℕ → Option A
    → Option (ℕ × ((ℤ × ℤ) × A)) → Type 0
StepsArc {A = A} lists table index last result =
    (left : List ((ℤ × ℤ) × A)) → IsLeft lists (drop index table) last left
    → MatchOption result (left ≡ [])
    (λ s. (rest : List ((ℤ × ℤ) × A)) × (left ≡ s.1 ∷ rest) × IsLeft lists (drop s.0 table) (Some s.1.1) rest)

-- `out` begins with these rows
abbrev pub HasRows : List Arc → List Arc → Type 0
HasRows out rows = take (length rows) out ≡ rows

-- wherever these arcs are left, the first n of them are copied, as many as there is room for, and the others are left
-- after the last one that is taken then
abbrev pub Fills : {B A : Type 0} → (A → List ℤ) → (B → List A) → List ((ℤ × ℤ) × B) → ℕ → Option A → ℕ
    → List Arc → ℕ → ℕ → Option A → Type 0
Fills {A = A} numbers lists table index last room out n next taken =
    (left : List ((ℤ × ℤ) × A)) → IsLeft lists (drop index table) last left
    → HasRows out (rows_by numbers (take room left)) × (n ≡ length (take room left))
    × IsLeft lists (drop next table) taken (drop n left)

-- this many arcs that the table lists are copied, from wherever the walk goes on
abbrev pub CopiesListed : {B A : Type 0} → (A → List ℤ) → (B → List A) → List ((ℤ × ℤ) × B) → List Arc → ℕ → Type 0
CopiesListed {A = A} numbers lists table out n =
    (arcs : List ((ℤ × ℤ) × A)) × All (Contains (listed_arcs lists table)) arcs × HasRows out (rows_by numbers arcs)
    × (n ≡ length arcs)

-- these rows are left of a table after the cursor: it is one that begins a pair, or it is after an arc of its pair
abbrev pub IsLeftAfter : {B A : Type 0} → (A → List ℤ) → (B → List A) → (Cursor → A) → List ((ℤ × ℤ) × B) → Cursor
    → List Arc → Type 0
IsLeftAfter {A = A} numbers lists arc table cursor rows =
    (left : List ((ℤ × ℤ) × A)) × IsLeft lists (drop cursor.pairs table) (last_before arc cursor) left
    × (rows ≡ rows_by numbers left)

-- wherever these rows are left after the old cursor, the first n of them are copied, as many as there is room for, and
-- the others are left after the new cursor. After any other cursor, some arcs of the table are copied, or none
abbrev pub CopiesFrom : {B A : Type 0} → (A → List ℤ) → (B → List A) → (Cursor → A) → List ((ℤ × ℤ) × B) → Cursor
    → Cursor → ℕ → List Arc → Count → Type 0
CopiesFrom numbers lists arc table old new room out result =
    (result.code ≡ 0)
    × ((rows : List Arc) → IsLeftAfter numbers lists arc table old rows
    → HasRows out (take room rows) × (result.count ≡ length (take room rows))
    × IsLeftAfter numbers lists arc table new (drop result.count rows))
    × CopiesListed numbers lists table out result.count
