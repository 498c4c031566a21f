use Rattle.std.proofs.Common.{rules}
use Rattle.dn_instance.proofs.companion.CompanionFault.name.Goals as goal

pub returns-in-NotKinds : goal.returns-in-NotKinds
returns-in-NotKinds c = search rules
