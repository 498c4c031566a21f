use Rattle.std.proofs.Common.{◌∙◌, arith}
use Rattle.dn_line.proofs.FieldLaws.{fault_turn}
use Rattle.dn_line.proofs.fields.fault_of_each.Goals as goal

pub loop-i-preserved : goal.loop-i-preserved
loop-i-preserved c =
    rw (c.earlier-found.ensures, c.fault.ensures)
    (fault_turn c.args.fields.now c.args.words.now c.loop-i.i _ _ c.loop-i.found (omega arith) (omega arith)
    ∙ c.loop-i.invariant)
