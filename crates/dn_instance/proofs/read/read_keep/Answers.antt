use Rattle.std.proofs.Common.{refl}
use Rattle.dn_instance.proofs.SourceLaws.{copied, copied_held}
use Rattle.dn_instance.proofs.read.read_keep.Goals as goal

pub returns-clause-prefix : goal.returns-clause-prefix
returns-clause-prefix g c = let more = c.read_all.ensures.prefix in (more.0, more.1 refl)

pub returns-clause-outcome : goal.returns-clause-outcome
returns-clause-outcome g c = copied _ _ _ _ c.read_all.result c.read_all.ensures.outcome

pub returns-clause-held : goal.returns-clause-held
returns-clause-held g c = copied_held _ _ c.read_all.result c.read_all.ensures.held
