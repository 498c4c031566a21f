use Rattle.dn_instance.proofs.FirstFaults.{same_place, same_code}
use Rattle.dn_laws.proofs.instances.laws.one_first_fault.Goals as goal

pub returns : goal.returns
returns c = record { place = same_place; code = same_code }
