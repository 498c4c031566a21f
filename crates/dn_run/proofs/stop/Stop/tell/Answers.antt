use Rattle.dn_run.proofs.OutcomeLaws.{line_taken}
use Rattle.dn_run.proofs.stop.Stop.tell.Goals as goal

pub returns-in-Refused : goal.returns-in-Refused
returns-in-Refused g c =
    rw c.in-Refused.is
    (line_taken _ _ c.put_fault_line.result c.put_fault_line.ensures.puts c.put_fault_line.ensures.flushed)

pub returns-in-Unfit : goal.returns-in-Unfit
returns-in-Unfit g c =
    rw c.in-Unfit.is
    (line_taken _ _ c.put_unfit_line.result c.put_unfit_line.ensures.puts c.put_unfit_line.ensures.flushed)

pub returns-in-Cut : goal.returns-in-Cut
returns-in-Cut g c =
    rw c.in-Cut.is
    (line_taken _ _ c.put_fault_line-in-Cut.result c.put_fault_line-in-Cut.ensures.puts
    c.put_fault_line-in-Cut.ensures.flushed)
