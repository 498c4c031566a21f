use Rattle.std.proofs.Common.{refl, ◌∙◌}
use Rattle.dn_instance.proofs.HeldLaws.{held_kind}
use Rattle.dn_run.proofs.OutcomeLaws.{added}
use Rattle.dn_run.proofs.findings.put_check.Goals as goal

pub returns-in-Ok-clause-puts : goal.returns-in-Ok-clause-puts
returns-in-Ok-clause-puts g c I reads is =
    let kind = c.kind.ensures ∙ held_kind c.args.held.now I is in
    (_, (refl, c.forms_of-forms.result, c.forms_of-forms.ensures I reads is, rw kind), added c.in-Ok.ensures.text)

pub returns-in-Err-clause-puts : goal.returns-in-Err-clause-puts
returns-in-Err-clause-puts g c I reads is =
    let kind = c.kind.ensures ∙ held_kind c.args.held.now I is in
    (_, _, (refl, c.forms_of-forms.result, c.forms_of-forms.ensures I reads is, rw kind), c.in-Err.ensures.text)
