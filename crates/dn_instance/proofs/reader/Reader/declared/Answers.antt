use Rattle.std.proofs.Common.{◌≡◌}
use Rattle.dn_instance.specs.State.Declarations.{declared_in}
use Rattle.dn_instance.specs.Readers.{ended}
use Rattle.dn_instance.specs.Texts.{items_of}
use Rattle.dn_instance.proofs.ReaderLaws.{before_refused, reading, refused}
use Rattle.dn_instance.proofs.reader.Reader.declared.Goals as goal

pub returns-clause-fine : goal.returns-clause-fine
returns-clause-fine c t h none = c.declared.ensures (ended t) (reading c.args.self.now t none h).read

pub returns-clause-refused : goal.returns-clause-refused
returns-clause-refused c t e h is =
    before_refused c.args.self.now (ended t) e (λ ls. c.declared.result ≡ declared_in (items_of ls))
    (refused c.args.self.now t e is h).1 c.declared.ensures
