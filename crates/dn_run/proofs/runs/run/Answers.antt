use Rattle.std.proofs.Common.{Ok, Err, refl, sym, ◌∙◌}
use Rattle.dn_command.specs.declared.request.Request.TheVariants.{Memory}
use Rattle.dn_run.proofs.BriefLaws.{ran_brief}
use Rattle.dn_run.proofs.StatusLaws.{ran_plain}
use Rattle.dn_run.proofs.RunLaws.{ran, refused_twice, run_once}
use Rattle.dn_run.proofs.OutcomeLaws.{line_taken}
use Rattle.dn_run.proofs.runs.run.Goals as goal

pub returns-in-Command-clause-also : goal.returns-in-Command-clause-also
returns-in-Command-clause-also g c =
    ran _ _ _ _ c.in-Command.command 3 c.in-Command.ensures.plain c.in-Command.ensures.other
    (refused_twice _ _ _ _ (sym c.names_standard_input_twice.ensures ∙ c.if-names_standard_input_twice.true)
    (record {
      status_is = refl;
      none_asked = refl;
      out_stays = refl;
      tells = line_taken _ _ c.put_and_flush.result c.put_and_flush.ensures.puts c.put_and_flush.ensures.flushed;
    }))

pub returns-in-Command-clause-ran : goal.returns-in-Command-clause-ran
returns-in-Command-clause-ran g c = ran_plain _ _ _ _ _ (ran_brief _ _ _ _ _ (returns-in-Command-clause-also g c))

pub returns-in-Ok-clause-also : goal.returns-in-Ok-clause-also
returns-in-Ok-clause-also g c =
    ran _ _ _ _ c.in-Command.command c.in-Ok.status c.in-Command.ensures.plain c.in-Command.ensures.other
    (run_once _ _ _ _ _ _ _ (Ok c.in-Ok.status) c.in-Ok.status
    (sym c.names_standard_input_twice.ensures ∙ c.if-names_standard_input_twice.false) c.in-Ok.ensures refl refl)

pub returns-in-Ok-clause-ran : goal.returns-in-Ok-clause-ran
returns-in-Ok-clause-ran g c = ran_plain _ _ _ _ _ (ran_brief _ _ _ _ _ (returns-in-Ok-clause-also g c))

pub returns-in-Err-clause-also : goal.returns-in-Err-clause-also
returns-in-Err-clause-also g c =
    ran _ _ _ _ c.in-Command.command c.status.result c.in-Command.ensures.plain c.in-Command.ensures.other
    (run_once _ _ _ _ _ _ _ (Err c.in-Err.stop) c.status.result
    (sym c.names_standard_input_twice.ensures ∙ c.if-names_standard_input_twice.false) c.in-Err.ensures c.status.ensures
    c.tell.ensures)

pub returns-in-Err-clause-ran : goal.returns-in-Err-clause-ran
returns-in-Err-clause-ran g c = ran_plain _ _ _ _ _ (ran_brief _ _ _ _ _ (returns-in-Err-clause-also g c))

pub returns-in-Memory-clause-also : goal.returns-in-Memory-clause-also
returns-in-Memory-clause-also g c = record {
  asked = λ asked plain. absurd (c.in-Memory.ensures.plain asked plain);
  other = λ none. (
    Memory,
    c.in-Memory.ensures.other none,
    record {
      status_is = refl;
      none_asked = refl;
      out_stays = refl;
      tells = line_taken _ _ c.put_fault_line.result c.put_fault_line.ensures.puts c.put_fault_line.ensures.flushed;
    },
  );
}

pub returns-in-Memory-clause-ran : goal.returns-in-Memory-clause-ran
returns-in-Memory-clause-ran g c = ran_plain _ _ _ _ _ (ran_brief _ _ _ _ _ (returns-in-Memory-clause-also g c))
