use Rattle.std.proofs.Common.{None, refl}
use Rattle.clap.proofs.OnLiterals.{clap_on_literals}
use Rattle.dn_command.specs.Commands.{Canon, Check, Compare, Show}
use Rattle.dn_arc_theory.specs.declared.arc.Form.TheVariants.{One}
use Rattle.dn_laws.proofs.words.ReadLaws.{answered}
use Rattle.dn_laws.proofs.words.laws.any_names.Goals as goal

pub returns : goal.returns
unfolding clap_on_literals
returns c = record {
  show = λ program name. answered _ (Show name) (λ p q s. (refl, refl));
  check = λ program name. answered _ (Check name None) (λ p q s. (refl, refl));
  canon = λ program name. answered _ (Canon name One) (λ p q s. (refl, refl));
  compare = λ program left right. answered _ (Compare left right) (λ p q s. (refl, refl));
}
