use Rattle.std.proofs.Common.{refl}
use Rattle.std.specs.Fmt.{digits}
use Rattle.dn_laws.proofs.texts.examples.printed.Goals as goal

pub returns : goal.returns
unfolding digits
returns c = record { sp = refl; max = refl; ss = refl; p2p = refl; co = refl }
