use Rattle.std.proofs.Common.{codes, refl}
use Rattle.dn_command.specs.Commands.{Compare, Show}
use Rattle.dn_laws.proofs.runs.examples.asked_texts.Goals as goal

pub returns : goal.returns
returns g c = record {
  none = λ old new out err status r.
      ((r.asked (Compare (codes "-") (codes "-")) refl).twice refl).none_asked;
  one = λ old new out err other status r.
      (((r.asked (Show (codes "x.gr")) refl).once refl).performs).asks.keeps other (λ e. cc);
}
