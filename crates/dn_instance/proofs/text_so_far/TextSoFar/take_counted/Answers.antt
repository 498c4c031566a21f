use Rattle.std.proofs.Common.{rules, Ok, Err, Some, FitsSigned, w64, ap}
use Rattle.dn_instance.specs.declared.text_so_far.TextSoFar.{TextSoFar}
use Rattle.dn_instance.proofs.RowTakes.{counted_took, one_less, same_read}
use Rattle.dn_instance.proofs.text_so_far.TextSoFar.take_counted.Goals as goal

pub returns-in-Ok-clause-taken : goal.returns-in-Ok-clause-taken
returns-in-Ok-clause-taken c kind is =
    let due : FitsSigned w64 c.args.self.now.due = search rules in
    counted_took c.args.self.now _ c.in-Some.body c.take.new.self kind c.args.row.now (Ok tt) c.in-Some.is is
    c.in-Ok.ensures.kept c.in-Ok.ensures.taken
    (λ some. ap (λ d. (let t : TextSoFar = record c.args.self.now { due = d; body = Some c.take.new.self } in t))
    (one_less c.args.self.now.due some due))

pub returns-in-Err-clause-taken : goal.returns-in-Err-clause-taken
returns-in-Err-clause-taken c kind is =
    counted_took c.args.self.now _ c.in-Some.body c.take.new.self kind c.args.row.now (Err c.in-Err.fault) c.in-Some.is
    is c.in-Err.ensures.kept c.in-Err.ensures.taken tt

pub returns-in-Err-clause-unchanged : goal.returns-in-Err-clause-unchanged
returns-in-Err-clause-unchanged c before at =
    same_read c.args.self.now c.in-Some.body c.take.new.self before c.in-Some.is c.in-Err.ensures.kept
    (λ h. c.in-Err.ensures.unchanged before h) at
