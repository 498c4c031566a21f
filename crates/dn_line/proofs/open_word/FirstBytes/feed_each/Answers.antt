use Rattle.std.proofs.Common.{append-nil}
use Rattle.std.proofs.lemmas.List.{take_all}
use Rattle.dn_line.proofs.OpenWordLaws.{first_more}
use Rattle.dn_line.proofs.open_word.FirstBytes.feed_each.Goals as goal

pub loop-byte-init : goal.loop-byte-init
loop-byte-init c w e = rw append-nil e

pub loop-byte-preserved : goal.loop-byte-preserved
loop-byte-preserved c w e =
    rw (first_more w c.args.bytes.now c.loop-byte.byte-index c.loop-byte-test.true, ← c.loop-byte.invariant w e)
    c.step-first.ensures

pub returns : goal.returns
returns c w e =
    rw (take_all c.loop-byte.byte-index c.args.bytes.now c.loop-byte-test.false) at (c.loop-byte.invariant w e)
