use Rattle.dn_num.proofs.EightLaws.{values_are}
use Rattle.dn_num.proofs.eight.digits.Goals as goal

pub returns : goal.returns
returns c = values_are c.args.codes
