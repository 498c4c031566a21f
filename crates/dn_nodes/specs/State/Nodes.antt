-- Values by node.
use Rattle.std.specs.Prelude.{◌≡◌, ℤ, List, Bool, ◌||◌, Option, None, Some}
use Rattle.std.specs.Borrow.{Bor}
use Rattle.std.specs.BTreeMap.{insert_entry, is_at}
use Rattle.std.specs.BTreeMap.Range.{entries_between}
use Rattle.std.specs.declared.ops.Bound.TheVariants.{Excluded, Unbounded}
use Rattle.std.specs.List.{list_any}
use Rattle.std.specs.List.Sorted.{IsStrictlySortedBy}
use Rattle.std.specs.Map.{keys_of, lookup}
use Rattle.std.specs.Ordering.{int_cmp}

-- some nodes, by ascending node, and those that have a value, with their values
pub record Nodes (V : Type 0) : Type 0 where
  pub entries : List (ℤ × V)
  pub known : List ℤ

-- whether a node is this one
abbrev pub at : ℤ → ℤ → Bool
at k = is_at (int_cmp k)

-- the value of a node
abbrev pub get : {V : Type 0} → Nodes V → ℤ → Option V
get nodes node = lookup (at node) nodes.entries

-- whether this is one of the nodes
abbrev pub is_known : {V : Type 0} → Nodes V → ℤ → Bool
is_known nodes node = list_any (at node) nodes.known

-- the entries of the nodes after this one
abbrev pub after : {V : Type 0} → ℤ → List (ℤ × V) → List (ℤ × V)
after node es = entries_between int_cmp (Excluded node) Unbounded es

-- the entries with that of a node, if it has a value
abbrev pub with_entry : {V : Type 0} → List (ℤ × V) → ℤ → Option V → List (ℤ × V)
with_entry es node None = es
with_entry es node (Some v) = insert_entry int_cmp es node v

-- the new nodes are the old ones and this one, with this value if it has one
pub record Gains {V : Type 0} (old : Nodes V) (node : ℤ) (value : Option V) (new : Nodes V) : Type 0 where
  pub entries : new.entries ≡ with_entry old.entries node value
  pub known : (q : ℤ) → is_known new q ≡ (at q node || is_known old q)

-- the nodes strictly ascend
abbrev pub Ascends : {V : Type 0} → List (ℤ × V) → Type 0
Ascends es = IsStrictlySortedBy int_cmp (keys_of es)

-- the entry that an item of an iterator represents
abbrev pub node_entry : {V : Type 0} → ℤ × Bor V → ℤ × V
node_entry x = (x.0, x.1.now)
