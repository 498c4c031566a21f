use Rattle.std.proofs.Common.{refl}
use Rattle.clap.proofs.OnLiterals.{clap_on_literals}
use Rattle.dn_laws.proofs.words.ReadLaws.{versioned}
use Rattle.dn_laws.proofs.words.examples.calls_for_the_version.Goals as goal

pub returns : goal.returns
unfolding clap_on_literals
returns c = record {
  long = versioned _ (λ p q r. refl);
  short = versioned _ (λ p q r. refl);
}
