use Rattle.std.proofs.Common.{refl}
use Rattle.clap.proofs.OnLiterals.{clap_on_literals}
use Rattle.dn_laws.proofs.words.ReadLaws.{mistaken}
use Rattle.dn_laws.proofs.words.examples.mistakes.Goals as goal

pub returns : goal.returns
unfolding clap_on_literals
returns c = record {
  no_file = mistaken _ _ _ (λ p q r. refl) (refl, tt);
  option = mistaken _ _ _ (λ p q r. refl) (refl, tt);
  form = mistaken _ _ _ (λ p q r. refl) (refl, tt);
  twice = mistaken _ _ _ (λ p q r. refl) (refl, tt);
  command = mistaken _ _ _ (λ p q r. refl) (refl, (refl, tt));
}
