use Rattle.dn_num.proofs.LaneLaws.{fours_are}
use Rattle.dn_num.proofs.value.fours.Goals as goal

pub returns : goal.returns
returns c = fours_are c.args.word
