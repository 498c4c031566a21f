use Rattle.dn_instance.proofs.FirstFaults.{either, not_both}
use Rattle.dn_laws.proofs.instances.laws.accepted_or_faulty.Goals as goal

pub returns : goal.returns
returns c = record { either = either; not_both = not_both }
