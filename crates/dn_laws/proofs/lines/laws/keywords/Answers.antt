use Rattle.dn_line.proofs.KeywordLaws.{keyword_own, keyword_only}
use Rattle.dn_laws.proofs.lines.laws.keywords.Goals as goal

pub returns : goal.returns
returns c = record { own = keyword_own; only = keyword_only }
