use Rattle.dn_num.proofs.LaneLaws.{low_halves}
use Rattle.dn_num.proofs.value.values.Goals as goal

pub returns : goal.returns
returns c = low_halves c.args.word
