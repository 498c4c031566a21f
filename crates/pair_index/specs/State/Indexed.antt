-- What an index finds. Callers rely on this definition, and need not know how keys are found.
use Rattle.std.specs.Prelude.{ℤ, List}
use Rattle.std.specs.List.{IsDistinct}
use Rattle.dn_arc_theory.specs.Pairs.{same_pair}
use Rattle.pair_index.specs.State.Shown.{ShowsIndex}
use Rattle.pair_index.specs.declared.index.PairIndex.{PairIndex}

-- the keys are different pairs, and the index finds the position of each
pub record Indexes (index : PairIndex) (keys : List (ℤ × ℤ)) : Type 0 where
  pub apart : IsDistinct same_pair keys
  pub shows : ShowsIndex index.way keys
