use Rattle.dn_answers.proofs.AnswerLaws.{same_answers}
use Rattle.dn_answers.proofs.texts.same_answers.Goals as goal

pub returns : goal.returns
returns c = same_answers
