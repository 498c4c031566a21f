use Rattle.dn_laws.proofs.texts.ContentLaws.{words_alone, words_split}
use Rattle.dn_laws.proofs.instances.laws.words_alone.Goals as goal

pub returns : goal.returns
returns c = record { lines = words_alone; blanks = words_split }
