use Rattle.dn_num.proofs.ShortestLaws.{decimal_shortest, shortest_decimal, decimal_reads}
use Rattle.dn_laws.proofs.numbers.laws.shortest.Goals as goal

pub returns : goal.returns
returns c = record { text = decimal_shortest; only = shortest_decimal; read = decimal_reads }
