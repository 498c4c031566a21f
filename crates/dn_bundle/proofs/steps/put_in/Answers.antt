use Rattle.std.proofs.Common.{ap, ◌∙◌, rules, unwrap_or, pos}
use Rattle.dn_bundle.proofs.StepLaws.{sum_fits, sum_is, lacks, on_err}
use Rattle.dn_bundle.proofs.steps.put_in.Goals as goal

pub overflow_add-held : goal.overflow_add-held
overflow_add-held c =
    let e = c.unwrap_or-held.ensures ∙ ap (λ o. unwrap_or o (pos 0)) (c.copied.ensures ∙ c.get.ensures.value) in
    sum_fits c.args.map.now.entries c.args.step c.unwrap_or-held.result c.requires.some c.requires.steps c.requires.fits
    e (search rules)

pub returns-clause-ok : goal.returns-clause-ok
returns-clause-ok c =
    let e = c.unwrap_or-held.ensures ∙ ap (λ o. unwrap_or o (pos 0)) (c.copied.ensures ∙ c.get.ensures.value) in
    sum_is c.args.map.now.entries c.args.step c.unwrap_or-held.result c.insert.new.self.entries c.requires.some
    c.requires.steps c.requires.fits e (search rules) (search rules) c.insert.ensures.was_ordered
    c.in_ok-insert.ensures.entries

pub returns-in_err-insert-clause-memory : goal.returns-in_err-insert-clause-memory
returns-in_err-insert-clause-memory c =
    on_err c.from_residual.result
    (lacks c.args.map.now.entries c.args.step.0 (search rules) c.in_err-insert.ensures.absent)
