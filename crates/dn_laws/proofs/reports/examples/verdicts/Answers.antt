use Rattle.std.proofs.Common.{refl}
use Rattle.std.specs.Fmt.{digits}
use Rattle.dn_laws.proofs.reports.examples.verdicts.Goals as goal

pub returns : goal.returns
unfolding digits
returns c = record {
  same = refl;
  kinds = refl;
  nodes = refl;
  supply = refl;
  source = refl;
  sink = refl;
  length_at = refl;
  capacity = refl;
  cost = refl;
  lengths = refl;
  item = refl;
  point = refl;
}
