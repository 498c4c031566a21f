use Rattle.std.proofs.Common.{rules}
use Rattle.dn_line.proofs.line_table.number_fields.Goals as goal

pub returns-then-are_numeric-clause-fields : goal.returns-then-are_numeric-clause-fields
returns-then-are_numeric-clause-fields c = search rules
