use Rattle.std.proofs.Common.{refl}
use Rattle.std.specs.Fmt.{digits}
use Rattle.dn_laws.proofs.reports.examples.faults.Goals as goal

pub returns : goal.returns
unfolding digits
returns c = record { of_lines = refl; of_fields = refl; of_items = refl; of_texts = refl }
