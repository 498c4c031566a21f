use Rattle.std.proofs.Common.{refl, arith, ◌∙◌, rules}
use Rattle.dn_run.proofs.OutcomeLaws.{line_taken}
use Rattle.dn_run.proofs.host_runs.run_on.Goals as goal

pub returns-in-Ok-clause-ran : goal.returns-in-Ok-clause-ran
returns-in-Ok-clause-ran g c = rw c.in-Ok.is (rw (← c.deref.ensures.value) c.run.ensures.ran)

pub returns-in-Ok-clause-also : goal.returns-in-Ok-clause-also
returns-in-Ok-clause-also g c = rw c.in-Ok.is (rw (← c.deref.ensures.value) c.run.ensures.also)

pub returns-in_default : goal.returns-in_default
returns-in_default g c = record {
  status = omega arith;
  ran = rw c.in-Err.is (record {
    text = λ e. absurd (c.in_default.not-InvalidData (c.kind.ensures ∙ e));
    memory = λ _. record {
      status_is = refl;
      out_stays = refl;
      tells = line_taken _ _ c.put_fault_line.result c.put_fault_line.ensures.puts c.put_fault_line.ensures.flushed;
    };
  });
  also = rw c.in-Err.is refl;
}

pub returns-in-InvalidData-clause-ran : goal.returns-in-InvalidData-clause-ran
returns-in-InvalidData-clause-ran g c = search rules
