use Rattle.std.proofs.Common.{refl, arith}
use Rattle.std.proofs.lemmas.Int.{ints}
use Rattle.dn_line.proofs.NumbersLaws.{last_number, more_numbers}
use Rattle.dn_line.proofs.row.short_three.Goals as goal

pub returns-clause-numbers : goal.returns-clause-numbers
returns-clause-numbers c =
    record {
      numbers =
          more_numbers c.in_ok-first.ensures.number (omega (arith, ints))
          (more_numbers c.in_ok-second.ensures.number (omega (arith, ints))
          (last_number c.in_ok-third.ensures.number (omega (arith, ints)) c.in_ok-after_plain_end.ensures));
      others = (refl, (refl, tt));
    }
