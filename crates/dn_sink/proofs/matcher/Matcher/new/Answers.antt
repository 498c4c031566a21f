use Rattle.std.proofs.Common.{rules}
use Rattle.dn_sink.proofs.matcher.Matcher.new.Goals as goal

pub returns-clause-put : goal.returns-clause-put
returns-clause-put c = search rules
