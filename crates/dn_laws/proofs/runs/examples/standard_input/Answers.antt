use Rattle.std.proofs.Common.{codes, inl, refl}
use Rattle.dn_command.specs.Commands.{Compare}
use Rattle.dn_laws.proofs.runs.ExampleLaws.{took_line}
use Rattle.dn_laws.proofs.runs.examples.standard_input.Goals as goal

pub returns : goal.returns
returns c behind out err status r =
    let (three, refused) = r.twice (Compare (codes "-") (codes "-")) refl refl in
    inl (three, refused.out_stays, took_line err _ refused.tells)
