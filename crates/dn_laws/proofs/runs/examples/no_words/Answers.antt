use Rattle.std.proofs.Common.{inl}
use Rattle.dn_laws.proofs.runs.ExampleLaws.{took_line}
use Rattle.dn_laws.proofs.runs.examples.no_words.Goals as goal

pub returns : goal.returns
returns c error out err status kind h =
    let ran = h.text kind in
    inl (ran.status_is, ran.out_stays, took_line err _ ran.tells)
