use Rattle.std.proofs.Common.{rules}
use Rattle.pair_index.proofs.index.PairIndex.sort.Goals as goal

pub returns : goal.returns
returns g c = search rules
