use Rattle.std.proofs.Common.{arith, pos}
use Rattle.std.proofs.lemmas.List.{take_more}
use Rattle.dn_canon.proofs.LineLaws.{number_more}
use Rattle.dn_canon.proofs.block.put_numbers.Goals as goal

pub loop-number-preserved : goal.loop-number-preserved
loop-number-preserved c = record {
  text =
      number_more _ _ _ c.loop-number.invariant.text c.put_spaced-end.ensures.text
      (take_more c.args.numbers.now c.loop-number.number-index (pos 0) c.loop-number-test.true);
  within = omega arith;
}
