use Rattle.std.proofs.Common.{refl}
use Rattle.dn_instance.proofs.FirstFaults.{clean_is}
use Rattle.dn_laws.proofs.instances.examples.read_others.Goals as goal

pub returns : goal.returns
returns c = record {
  max = record { clean = clean_is _ refl; whole = refl; instance_is = refl };
  ss = record { clean = clean_is _ refl; whole = refl; instance_is = refl };
  p2p = record { clean = clean_is _ refl; whole = refl; instance_is = refl };
  co = record { clean = clean_is _ refl; whole = refl; instance_is = refl };
}
