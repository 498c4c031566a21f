use Rattle.std.proofs.Common.{◌++◌, take, sym, ap, ◌∙◌}
use Rattle.dn_num.specs.State.NumberReader.{number_state}
use Rattle.dn_num.proofs.NumberReaderLaws.{rejoined_slice, step_more, all_taken}
use Rattle.dn_num.proofs.number_reader.State.feed.Goals as goal

pub returns-in-Digits : goal.returns-in-Digits
returns-in-Digits c b e =
    c.digits.ensures (b ++ take c.loop-i.i c.args.bytes.now) (sym c.in-Digits.is ∙ c.loop-i.invariant b e)
    ∙ ap number_state (rejoined_slice b c.args.bytes.now c.loop-i.i)

pub loop-i-preserved : goal.loop-i-preserved
loop-i-preserved c b e =
    c.step-state.ensures ∙ step_more b c.args.bytes.now c.loop-i.i c.loop-i.state
    (c.loop-i.invariant b e) c.loop-i-test.true

pub returns : goal.returns
returns c b e = all_taken b c.args.bytes.now c.loop-i.i _ (c.loop-i.invariant b e) c.loop-i-test.false
