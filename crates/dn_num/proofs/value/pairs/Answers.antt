use Rattle.dn_num.proofs.LaneLaws.{pairs_are}
use Rattle.dn_num.proofs.value.pairs.Goals as goal

pub returns : goal.returns
returns c = pairs_are c.args.word
