use Rattle.std.proofs.Common.{[]}
use Rattle.dn_instance.proofs.SourceLaws.{unkept, unkept_held}
use Rattle.dn_instance.proofs.read.read_from.Goals as goal

pub returns-clause-outcome : goal.returns-clause-outcome
returns-clause-outcome g c = unkept _ _ _ _ c.read_all.result c.read_all.ensures.outcome

pub returns-clause-held : goal.returns-clause-held
returns-clause-held g c = unkept_held [] [] c.read_all.result c.read_all.ensures.held
