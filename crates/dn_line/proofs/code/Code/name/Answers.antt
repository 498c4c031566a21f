use Rattle.std.proofs.Common.{rules}
use Rattle.dn_line.proofs.code.Code.name.Goals as goal

pub returns-in-FieldCount : goal.returns-in-FieldCount
returns-in-FieldCount c = search rules
