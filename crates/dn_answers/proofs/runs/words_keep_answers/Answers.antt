use Rattle.dn_answers.proofs.RunLaws.{words_answers_kept}
use Rattle.dn_answers.proofs.runs.words_keep_answers.Goals as goal

pub returns : goal.returns
returns g c words name b behind out_old out_new err_old err_new plain run known =
    words_answers_kept behind _ _ words name b c.args.form plain run known
