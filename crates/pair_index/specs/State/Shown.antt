-- How an index finds keys. Only the proofs of this crate use these definitions.
use Rattle.std.specs.Prelude.{ℕ, ℤ, List}
use Rattle.std.specs.BTreeMap.{BTreeMap, get}
use Rattle.dn_arc_theory.specs.Pairs.{pair_cmp}
use Rattle.pair_index.specs.State.Chained.{IsChained}
use Rattle.pair_index.specs.State.Positions.{IsPosition}
use Rattle.pair_index.specs.State.Runs.{ShowsRuns}
use Rattle.pair_index.specs.State.Tailed.{IsTailed}
use Rattle.pair_index.specs.declared.index.Way.{Way}
use Rattle.pair_index.specs.declared.index.Way.TheVariants.{Runs, Tails, Chained, Ordered}

-- the map has the position of each key, and nothing for any other pair
abbrev pub HasPositions : BTreeMap (ℤ × ℤ) ℕ → List (ℤ × ℤ) → Type 0
HasPositions positions keys = (pair : ℤ × ℤ) → IsPosition keys pair (get pair_cmp positions pair)

-- the runs or the chains find the keys, or the map has their positions, according to the way of the index
abbrev pub ShowsIndex : Way → List (ℤ × ℤ) → Type 0
ShowsIndex (Runs runs) keys = ShowsRuns runs keys
ShowsIndex (Tails tails) keys = IsTailed tails keys
ShowsIndex (Chained chains) keys = IsChained chains keys
ShowsIndex (Ordered positions) keys = HasPositions positions keys
