use Rattle.dn_canon.proofs.TextLaws.{texts_agree}
use Rattle.dn_laws.proofs.texts.laws.same_bytes.Goals as goal

pub returns : goal.returns
returns c = texts_agree c.args.form
