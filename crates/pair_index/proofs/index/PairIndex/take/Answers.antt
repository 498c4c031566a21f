use Rattle.std.proofs.Common.{length, refl, sym}
use Rattle.std.specs.Map.{keys_of}
use Rattle.std.proofs.lemmas.Map.Entries.{length-keys_of}
use Rattle.pair_index.proofs.IndexLaws.{apart_more, positions_more}
use Rattle.pair_index.proofs.SortLaws.{apart_still, fresh_still}
use Rattle.pair_index.proofs.index.PairIndex.take.Goals as goal

pub returns-in-Runs-clause-taken : goal.returns-in-Runs-clause-taken
returns-in-Runs-clause-taken g c is =
    let es = c.args.entries.now in
    let fs = c.take.new.entries in
    let p = c.args.pair.now in
    record {
      apart =
          apart_more (keys_of fs) p (apart_still es fs c.take.ensures.moved c.requires.indexed.apart)
          (fresh_still p es fs c.take.ensures.moved c.requires.fresh);
      shows = c.take.ensures.taken is;
    }

pub returns-else-not-stays-clause-taken : goal.returns-else-not-stays-clause-taken
returns-else-not-stays-clause-taken g c is =
    let keys = keys_of c.args.entries.now in
    record {
      apart = apart_more keys c.args.pair.now c.requires.indexed.apart c.requires.fresh;
      shows = rw is at c.take-in-Tails.ensures.taken refl;
    }

pub returns-else-is_full-clause-taken : goal.returns-else-is_full-clause-taken
returns-else-is_full-clause-taken g c is =
    let keys = keys_of c.args.entries.now in
    record {
      apart = apart_more keys c.args.pair.now c.requires.indexed.apart c.requires.fresh;
      shows = c.take-in-Chained.ensures.taken is;
    }

pub returns-in_ok-insert-in-Ordered-clause-taken : goal.returns-in_ok-insert-in-Ordered-clause-taken
returns-in_ok-insert-in-Ordered-clause-taken g c is =
    let keys = keys_of c.args.entries.now in
    let p = c.args.pair.now in
    record {
      apart = apart_more keys p c.requires.indexed.apart c.requires.fresh;
      shows =
          positions_more keys p (length c.args.entries.now) (sym (length-keys_of c.args.entries.now))
          c.in-Ordered.positions c.insert.new.self
          (rw c.in-Ordered.is at c.requires.indexed.shows)
          (λ q. c.in_ok-insert-in-Ordered.ensures.updates.0 q);
    }
