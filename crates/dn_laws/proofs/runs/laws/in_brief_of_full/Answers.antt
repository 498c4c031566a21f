use Rattle.dn_run.proofs.BriefLaws.{ran_brief}
use Rattle.dn_run.proofs.StatusLaws.{ran_plain}
use Rattle.dn_laws.proofs.runs.laws.in_brief_of_full.Goals as goal

pub returns : goal.returns
returns g c = record {
  brief = λ old new words out_old out_new err_old err_new status r. ran_brief _ _ _ words status r;
  plain = λ words behind out_old out_new err_old err_new status r. ran_plain behind _ _ words status r;
}
