use Rattle.std.proofs.Common.{refl}
use Rattle.dn_command.proofs.OptionLaws.{adds_arg}
use Rattle.dn_command.proofs.options.wider_command.Goals as goal

pub returns-in-Ok : goal.returns-in-Ok
returns-in-Ok c =
    let added = adds_arg c.in-Ok.command c.args.more c.arg.result c.in-Ok.ensures.app c.in-Ok.ensures.local refl
    c.requires.local c.arg.ensures in
    record { app = added.0; local = added.1 }
