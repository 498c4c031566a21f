use Rattle.dn_canon.proofs.TextLaws.{reads_canon}
use Rattle.dn_laws.proofs.texts.laws.canonical_reading.Goals as goal

pub returns : goal.returns
returns c = reads_canon c.args.form
