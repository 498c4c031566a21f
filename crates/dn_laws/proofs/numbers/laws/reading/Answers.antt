use Rattle.std.proofs.Common.{rules}
use Rattle.dn_num.proofs.NumberLaws.{read_none}
use Rattle.dn_laws.proofs.numbers.laws.reading.Goals as goal

pub returns-clause-not_a_number : goal.returns-clause-not_a_number
returns-clause-not_a_number c b = (search rules, read_none b)
