use Rattle.std.proofs.Common.{sym, ap, ◌∙◌}
use Rattle.dn_num.specs.declared.number_reader.State.TheVariants.{Digits}
use Rattle.dn_num.proofs.NumberReaderLaws.{digit_more, spoiled, all_taken}
use Rattle.dn_num.proofs.number_reader.digits.Goals as goal

pub returns-then-not-is_digit : goal.returns-then-not-is_digit
returns-then-not-is_digit c b e =
    spoiled b c.args.bytes.now c.loop-byte.byte-index c.args.negative c.loop-byte.all
    (c.loop-byte.invariant b e) c.loop-byte-test.true
    (sym c.is_digit.ensures ∙ c.if-not-is_digit.true)

pub loop-byte-preserved : goal.loop-byte-preserved
loop-byte-preserved c b e =
    ap (Digits c.args.negative) c.more-all.ensures
    ∙ digit_more b c.args.bytes.now c.loop-byte.byte-index c.args.negative c.loop-byte.all
    (c.loop-byte.invariant b e) c.loop-byte-test.true
    (sym c.is_digit.ensures ∙ c.if-not-is_digit.false)

pub returns : goal.returns
returns c b e = all_taken b c.args.bytes.now c.loop-byte.byte-index _ (c.loop-byte.invariant b e) c.loop-byte-test.false
