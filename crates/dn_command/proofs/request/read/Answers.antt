use Rattle.dn_command.proofs.RequestLaws.{answers, answers_by_matches}
use Rattle.dn_command.proofs.request.read.Goals as goal

pub returns-in-Ok : goal.returns-in-Ok
returns-in-Ok c = record {
  forms = c.in-Ok.ensures.forms;
  are_forms = c.in-Ok.ensures.are_forms;
  answer = answers_by_matches c.command_or_bad-request.result c.in-Ok.ensures.fails c.in-Ok.ensures.matches
      c.command_or_bad-request.ensures;
}

pub returns-in-Err : goal.returns-in-Err
returns-in-Err c = record {
  forms = c.in-Err.ensures.forms;
  are_forms = c.in-Err.ensures.are_forms;
  answer = answers _ _ c.in-Err.error c.answer.result c.in-Err.ensures.fails c.answer.ensures;
}
