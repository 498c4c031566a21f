use Rattle.std.specs.Map.{keys_of}
use Rattle.pair_index.proofs.IndexLaws.{apart_more}
use Rattle.pair_index.proofs.index.PairIndex.is_next.Goals as goal

pub returns-in-Runs-clause-stays : goal.returns-in-Runs-clause-stays
returns-in-Runs-clause-stays g c is =
    let keys = keys_of c.args.entries.now in
    record {
      apart = apart_more keys c.args.pair.now c.requires.apart (c.is_next.ensures.fresh is);
      shows = rw c.in-Runs.is (c.is_next.ensures.stays is);
    }
