use Rattle.dn_answers.proofs.RunLaws.{canon_answers_kept}
use Rattle.dn_answers.proofs.runs.canon_keeps_answers.Goals as goal

pub returns : goal.returns
returns g c name b behind out_old out_new err_old err_new run known =
    canon_answers_kept behind _ _ name b c.args.form run known
