use Rattle.dn_command.proofs.options.dnorm_command.Goals as goal

pub returns : goal.returns
returns c =
    let one = c.add_command.ensures.app _ _ c.bare_command.ensures.app c.show_command.ensures.app in
    let two = c.add_command-program.ensures.app _ _ one c.check_command.ensures.app in
    let three = c.add_command-2.ensures.app _ _ two c.canon_command.ensures.app in
    record { app = c.add_command-3.ensures.app _ _ three c.compare_command.ensures.app }
