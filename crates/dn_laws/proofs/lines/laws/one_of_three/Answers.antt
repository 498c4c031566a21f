use Rattle.dn_line.proofs.AnswerLaws.{some, spells_unskipped, spells_faultless, spells_one}
use Rattle.dn_laws.proofs.lines.laws.one_of_three.Goals as goal

pub returns : goal.returns
returns c = record { some = some; unskipped = spells_unskipped; faultless = spells_faultless; one = spells_one }
