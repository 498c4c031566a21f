use Rattle.pair_index.proofs.SpliceLaws.{prefix_fresh}
use Rattle.pair_index.proofs.tails.Tails.take_all.Goals as goal

pub take-requires-clause-fresh : goal.take-requires-clause-fresh
take-requires-clause-fresh g c =
    prefix_fresh c.args.entries.now c.loop-i.i c.index-entries-i.result c.requires.apart c.loop-i-test.true

pub loop-i-init : goal.loop-i-init
loop-i-init g c = c.requires.linked

pub take-requires-clause-linked : goal.take-requires-clause-linked
take-requires-clause-linked g c = c.loop-i.invariant
