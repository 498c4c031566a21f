use Rattle.std.proofs.Common.{refl}
use Rattle.std.specs.Fmt.{digits}
use Rattle.dn_laws.proofs.reports.examples.fault_lines.Goals as goal

pub returns : goal.returns
unfolding digits
returns c = record {
  line = refl;
  end = refl;
  read = refl;
  memory = refl;
  endless = refl;
  write = refl;
  too_large = refl;
  node = refl;
  unfit = refl;
}
