use Rattle.std.proofs.Common.{sym, ap, ◌∙◌}
use Rattle.dn_arc_theory.specs.State.Steps.{step_past}
use Rattle.dn_bundle.proofs.SpotLaws.{past_both, past_rest}
use Rattle.dn_bundle.proofs.steps.Steps.past.Goals as goal

pub returns-in-Some : goal.returns-in-Some
returns-in-Some c =
    let cost = c.args.cost.now in
    past_both c.self.inside.few.items c.self.inside.rest.entries cost c.in-Some.step
    (sym c.in-Some.is ∙ c.past_few.ensures ∙ ap (λ l. step_past l cost) c.deref.ensures.0)
    ∙ ap (λ l. step_past l cost) c.self.view_is

pub returns-in-None : goal.returns-in-None
returns-in-None c =
    let cost = c.args.cost.now in
    c.past_in.ensures
    ∙ past_rest c.self.inside.few.items c.self.inside.rest.entries cost
    (sym c.in-None.is ∙ c.past_few.ensures ∙ ap (λ l. step_past l cost) c.deref.ensures.0)
    ∙ ap (λ l. step_past l cost) c.self.view_is
