-- A walk over entries by ascending key.
use Rattle.std.specs.Prelude.{Bool, List, [], ◌∷◌, Option, Some, None, cond}
use Rattle.std.specs.Ordering.{match_ordering}
use Rattle.std.specs.declared.cmp.Ordering.{Ordering}

-- the entries that a walk has not passed: the next one, of whose value `value` says what it is, and those after it
abbrev pub peeked_entries : {K L V : Type 0} → (L → V) → Option (K × L) → List (K × V) → List (K × V)
peeked_entries value None rest = []
peeked_entries value (Some e) rest = (e.0, value e.1) ∷ rest

-- the key of the first entry
abbrev pub first_key : {K V : Type 0} → List (K × V) → Option K
first_key [] = None
first_key (e ∷ es) = Some e.0

-- the value of the first entry, if its key is the one that is sought
abbrev pub value_at : {K V : Type 0} → (K → Bool) → List (K × V) → Option V
value_at sought [] = None
value_at sought (e ∷ es) = cond (sought e.0) (Some e.1) None

-- the entries after the key that is sought, if the first entry has this key; otherwise all entries
abbrev pub after_key : {K V : Type 0} → (K → Bool) → List (K × V) → List (K × V)
after_key sought [] = []
after_key sought (e ∷ es) = cond (sought e.0) es (e ∷ es)

-- the lesser of two keys, or the only one
abbrev pub lesser_key : {K : Type 0} → (K → K → Ordering) → Option K → Option K → Option K
lesser_key cmp None right = right
lesser_key cmp (Some l) None = Some l
lesser_key cmp (Some l) (Some r) = Some (match_ordering (cmp l r) l l r)
