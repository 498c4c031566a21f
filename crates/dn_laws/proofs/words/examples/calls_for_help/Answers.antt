use Rattle.std.proofs.Common.{refl}
use Rattle.clap.proofs.OnLiterals.{clap_on_literals}
use Rattle.dn_laws.proofs.words.ReadLaws.{helped}
use Rattle.dn_laws.proofs.words.examples.calls_for_help.Goals as goal

pub returns : goal.returns
unfolding clap_on_literals
returns c = record {
  long = helped _ (λ p q r. refl);
  short = helped _ (λ p q r. refl);
  command = helped _ (λ p q r. refl);
  first = helped _ (λ p q r. refl);
}
