use Rattle.std.proofs.Common.{refl, arith}
use Rattle.dn_instance.proofs.CleanItems.{no_lines}
use Rattle.dn_instance.proofs.text_so_far.TextSoFar.new.Goals as goal

pub returns : goal.returns
returns c =
    record {
      clean = no_lines;
      few = omega arith;
      number_is = refl;
      items_are =
          record {
            problem_is = refl;
            count_fits = omega arith;
            due_is = refl;
            due_some = omega arith;
            arcs_are = λ graph. refl;
            descriptors_hold = c.new.ensures;
            body_holds = refl;
          };
    }
