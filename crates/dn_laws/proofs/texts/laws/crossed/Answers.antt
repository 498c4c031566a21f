use Rattle.dn_canon.proofs.TextLaws.{forms_cross}
use Rattle.dn_laws.proofs.texts.laws.crossed.Goals as goal

pub returns : goal.returns
returns c = forms_cross c.args.from c.args.to
