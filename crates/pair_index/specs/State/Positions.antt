-- The position of a pair among keys. Callers rely on these definitions.
use Rattle.std.specs.Prelude.{◌≡◌, ℕ, ◌<◌, ◌≤◌, ℤ, pos, List, length, get_or, false, Option, MatchOption}
use Rattle.std.specs.List.{list_any}
use Rattle.dn_arc_theory.specs.Pairs.{same_pair}

-- the pair at a position
abbrev pub key_at : List (ℤ × ℤ) → ℕ → ℤ × ℤ
key_at keys i = get_or keys i (pos 0, pos 0)

-- the option is the position of the pair among the keys, or none if the pair is not there
abbrev pub IsPosition : List (ℤ × ℤ) → ℤ × ℤ → Option ℕ → Type 0
IsPosition keys pair position =
    MatchOption position (list_any (same_pair pair) keys ≡ false) (λ i. (i < length keys) × (key_at keys i ≡ pair))

-- the option is a position from `begin` on that has the pair, or none if there is no such position
abbrev pub IsPositionFrom : List (ℤ × ℤ) → ℕ → ℤ × ℤ → Option ℕ → Type 0
IsPositionFrom keys begin pair position =
    MatchOption position ((i : ℕ) → begin ≤ i → i < length keys → key_at keys i ≡ pair → ⊥)
    (λ i. (i < length keys) × (key_at keys i ≡ pair))
