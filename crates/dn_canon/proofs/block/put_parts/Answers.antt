use Rattle.std.proofs.Common.{arith, rules, w64}
use Rattle.std.specs.Int.RustNames.{FitsSigned}
use Rattle.std.proofs.lemmas.Int.{to_z-of_z}
use Rattle.dn_canon.proofs.LineLaws.{number_more, part_more}
use Rattle.dn_canon.proofs.block.put_parts.Goals as goal

pub loop-i-preserved : goal.loop-i-preserved
loop-i-preserved g c =
    let fits : FitsSigned w64 c.part-number.result = search rules in
    record {
      text =
          number_more _ _ _ c.loop-i.invariant.text c.put_spaced-end.ensures.text
          (part_more _ c.loop-i.i _ _ c.part-number.ensures (to_z-of_z w64 c.part-number.result fits));
      within = omega arith;
    }
