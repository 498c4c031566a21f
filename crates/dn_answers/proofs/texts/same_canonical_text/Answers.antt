use Rattle.dn_answers.proofs.AnswerLaws.{canon_answers}
use Rattle.dn_answers.proofs.texts.same_canonical_text.Goals as goal

pub returns : goal.returns
returns c = canon_answers c.args.form
