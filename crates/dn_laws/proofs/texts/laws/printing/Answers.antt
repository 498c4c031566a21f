use Rattle.dn_canon.proofs.PrintLaws.{print_one, print_reads}
use Rattle.dn_laws.proofs.texts.laws.printing.Goals as goal

pub returns : goal.returns
returns c = record { read = print_reads; one = print_one }
