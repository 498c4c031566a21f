use Rattle.std.proofs.Common.{refl}
use Rattle.dn_run.proofs.CommandLaws.{compared_as}
use Rattle.dn_run.proofs.OutcomeLaws.{added}
use Rattle.dn_run.proofs.findings.put_compared.Goals as goal

pub returns-in-Ok-clause-puts : goal.returns-in-Ok-clause-puts
returns-in-Ok-clause-puts g c I J v w is is' =
    let first = c.compare-verdict.ensures I J v w is is' in
    (_, compared_as I J _ _ first c.verdict_status.ensures, added c.in-Ok.ensures.text)

pub returns-in-Err-clause-puts : goal.returns-in-Err-clause-puts
returns-in-Err-clause-puts g c I J v w is is' =
    let first = c.compare-verdict.ensures I J v w is is' in
    (_, _, compared_as I J _ _ first refl, c.in-Err.ensures.text)
