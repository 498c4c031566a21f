use Rattle.dn_canon.proofs.TextLaws.{reads_twice}
use Rattle.dn_laws.proofs.texts.laws.twice.Goals as goal

pub returns : goal.returns
returns c = reads_twice c.args.form
