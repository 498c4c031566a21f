use Rattle.std.proofs.Common.{arith}
use Rattle.std.proofs.lemmas.Int.{ints}
use Rattle.dn_line.proofs.NumbersLaws.{last_number, more_numbers}
use Rattle.dn_line.proofs.row.short_five.Goals as goal

pub returns : goal.returns
returns c =
    record {
      numbers =
          more_numbers c.in_ok-first.ensures.number (omega (arith, ints))
          (more_numbers c.in_ok-second.ensures.number (omega (arith, ints))
          (more_numbers c.in_ok-third.ensures.number (omega (arith, ints))
          (more_numbers c.in_ok-fourth.ensures.number (omega (arith, ints))
          (last_number c.in_ok-fifth.ensures (omega (arith, ints)) c.in_ok-after_line_end.ensures))));
      others = tt;
    }
