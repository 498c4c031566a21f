use Rattle.std.proofs.Common.{arith}
use Rattle.dn_num.proofs.MarkLaws.{marks_are}
use Rattle.dn_num.proofs.mask.marks_of.Goals as goal

pub returns-clause-marks : goal.returns-clause-marks
returns-clause-marks c =
    record {
      within = omega arith;
      room = omega (arith, c.requires);
      bits = marks_are c.args.bytes.now c.requires c.type_inv.bytes;
    }
