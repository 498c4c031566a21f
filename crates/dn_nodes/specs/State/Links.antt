-- Which value each node has: 0 is no link, 1 is the link of a node without a value, and any other link is two more than
-- the position of a value.
use Rattle.std.specs.Prelude.{nat_eq, ◌+◌, ◌*◌, ◌+ℤ◌, ◌<◌, ◌≤◌, ◌≤ℤ◌, ℕ, zero, suc, ℤ, pos, List, [], ◌∷◌, ◌++◌, cond, Option, Some, None, length, slice_get}
use Rattle.std.specs.List.{AllByRecursion}

-- the entry of a link, if there is one
abbrev pub linked_at : ℤ → ℕ → List (ℤ × ℕ)
linked_at node zero = []
linked_at node (suc position) = (node, suc position) ∷ []

-- the nodes that a list of links has, from this node on
abbrev pub direct : ℕ → List ℕ → List (ℤ × ℕ)
direct node [] = []
direct node (link ∷ links) = linked_at (pos node) link ++ direct (suc node) links

-- the same, from any node on
abbrev pub direct_from : ℤ → List ℕ → List (ℤ × ℕ)
direct_from node [] = []
direct_from node (link ∷ links) = linked_at node link ++ direct_from (node +ℤ pos 1) links

-- how many zeros the links begin with
abbrev pub lead : List ℕ → ℕ
lead [] = zero
lead (link ∷ links) = cond (nat_eq link 0) (suc (lead links)) zero

-- all nodes are beyond a list of this length, and have links
abbrev pub AreFar : ℕ → List (ℤ × ℕ) → Type 0
AreFar n es = AllByRecursion (λ (e : ℤ × ℕ). (pos n ≤ℤ e.0) × (0 < e.1)) es

-- a list of links of the first length is short for so many nodes that have links: it has at most 8 places for each, and
-- 128 more
abbrev pub IsShort : ℕ → ℕ → Type 0
IsShort places nodes = places ≤ 8 * (nodes + 16)

-- a node with its value, if it has one
abbrev pub with_value : {V : Type 0} → ℤ → Option V → List (ℤ × V)
with_value node None = []
with_value node (Some v) = (node, v) ∷ []

-- the value at a link, if there is one
abbrev pub value_at : {V : Type 0} → List V → ℕ → Option V
value_at values zero = None
value_at values (suc zero) = None
value_at values (suc (suc position)) = slice_get values position

-- the value of a node, by its link
abbrev pub linked : {V : Type 0} → List V → Option ℕ → Option V
linked values None = None
linked values (Some link) = value_at values link

-- the nodes that have a value, by their links
abbrev pub valued : {V : Type 0} → List (ℤ × ℕ) → List V → List (ℤ × V)
valued [] values = []
valued (e ∷ links) values = with_value e.0 (value_at values e.1) ++ valued links values

-- no link leads beyond the values
abbrev pub AreWithin : {V : Type 0} → List (ℤ × ℕ) → List V → Type 0
AreWithin links values = AllByRecursion (λ (e : ℤ × ℕ). e.1 ≤ length values + 1) links
