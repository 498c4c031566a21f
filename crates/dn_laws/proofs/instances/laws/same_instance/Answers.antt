use Rattle.dn_instance.proofs.SameLaws.{refl_of, sym_of, trans_of}
use Rattle.dn_laws.proofs.instances.laws.same_instance.Goals as goal

pub returns : goal.returns
returns c = record { reflexive = refl_of; symmetric = sym_of; transitive = trans_of }
