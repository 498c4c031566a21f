use Rattle.dn_num.proofs.ZeroLaws.{zeros_are}
use Rattle.dn_num.proofs.eight.zeros.Goals as goal

pub returns : goal.returns
returns c = zeros_are c.args.word
