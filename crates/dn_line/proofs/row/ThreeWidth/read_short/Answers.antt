use Rattle.dn_line.proofs.RowLaws.{natural_fit}
use Rattle.dn_line.proofs.row.ThreeWidth.read_short.Goals as goal

pub returns-clause-fit : goal.returns-clause-fit
returns-clause-fit c =
    natural_fit c.args._fields.now c.in_ok-found.found.row c.requires.count c.requires.numeric
    c.in_ok-found.ensures.naturals
