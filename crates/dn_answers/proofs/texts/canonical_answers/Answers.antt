use Rattle.dn_answers.proofs.AnswerLaws.{text_answers}
use Rattle.dn_answers.proofs.texts.canonical_answers.Goals as goal

pub returns : goal.returns
returns c = text_answers c.args.form
