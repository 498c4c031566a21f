use Rattle.dn_answers.proofs.RunLaws.{compared_same}
use Rattle.dn_answers.proofs.runs.compared_same_answers.Goals as goal

pub returns : goal.returns
returns g c left right b e behind out_old out_new err_old err_new run known other =
    compared_same behind _ _ left right b e run known other
