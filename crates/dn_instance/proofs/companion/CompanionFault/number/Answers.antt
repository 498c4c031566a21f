use Rattle.std.proofs.Common.{rules}
use Rattle.dn_instance.proofs.companion.CompanionFault.number.Goals as goal

pub returns-in-NotInGraph : goal.returns-in-NotInGraph
returns-in-NotInGraph c = search rules
