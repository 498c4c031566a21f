use Rattle.std.proofs.Common.{length, sym, arith}
use Rattle.std.specs.Map.{keys_of}
use Rattle.std.proofs.lemmas.List.{take_all}
use Rattle.std.proofs.lemmas.Map.Entries.{length-keys_of}
use Rattle.pair_index.proofs.IndexLaws.{positions_on, positions_more}
use Rattle.pair_index.proofs.index.positions_with.Goals as goal

pub loop-i-preserved : goal.loop-i-preserved
loop-i-preserved g c =
    positions_on c.args.entries.now c.loop-i.i c.index-entries-i.result c.loop-i.positions c.insert.new.self
    c.loop-i-test.true c.loop-i.invariant
    (λ q. c.in_ok-insert.ensures.updates.0 q)

pub returns : goal.returns
returns g c =
    positions_more (keys_of c.args.entries.now) c.args.pair.now (length c.args.entries.now)
    (sym (length-keys_of c.args.entries.now)) c.loop-i.positions c.insert-2.new.self
    (rw (take_all c.loop-i.i c.args.entries.now (omega arith)) at c.loop-i.invariant)
    (λ q. c.in_ok-insert-2.ensures.updates.0 q)
