use Rattle.dn_command.proofs.OptionLaws.{adds_arg}
use Rattle.dn_command.proofs.options.text_command.Goals as goal

pub returns : goal.returns
returns c =
    let added = adds_arg c.named_command.result c.text.result c.arg.result c.named_command.ensures.app
    c.named_command.ensures.local c.text.ensures.rule c.text.ensures.local c.arg.ensures in
    record { app = added.0; local = added.1 }
