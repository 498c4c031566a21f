use Rattle.std.proofs.Common.{rules}
use Rattle.dn_line.proofs.open_word.OpenWord.feed.Goals as goal

pub returns : goal.returns
returns c = search rules
