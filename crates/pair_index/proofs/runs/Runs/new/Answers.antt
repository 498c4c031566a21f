use Rattle.std.specs.List.Sorted.{IsStrictlySortedBy}
use Rattle.pair_index.proofs.runs.Runs.new.Goals as goal

pub returns : goal.returns
unfolding IsStrictlySortedBy
returns c = tt
