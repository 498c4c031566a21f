use Rattle.dn_canon.proofs.ListedLaws.{min_head, max_head}
use Rattle.dn_laws.proofs.texts.laws.any_head.Goals as goal

pub returns : goal.returns
returns c = record { supplies = min_head c.args.form; terminals = max_head c.args.form }
