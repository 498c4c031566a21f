use Rattle.dn_num.proofs.LaneLaws.{value_is}
use Rattle.dn_num.proofs.value.value.Goals as goal

pub returns : goal.returns
returns c ds =
    value_is c.args.word c.values.result c.pairs.result c.fours.result c.eight.result ds
    (record { values = c.values.ensures; pairs = c.pairs.ensures; fours = c.fours.ensures })
    c.eight.ensures
