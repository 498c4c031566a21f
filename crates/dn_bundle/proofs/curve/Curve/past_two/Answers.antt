use Rattle.std.proofs.Common.{◌≡◌, Some, None, ap, sym, ◌∙◌, option_map}
use Rattle.dn_arc_theory.specs.State.Steps.{step_past}
use Rattle.dn_arc_theory.specs.State.CurveListed.{step_arc, fixed_arcs, joined_head}
use Rattle.dn_bundle.proofs.FormLaws.{arc_past, past_fits, past_of_two, first_joined}
use Rattle.dn_bundle.proofs.curve.Curve.past_two.Goals as goal

pub join-requires : goal.join-requires
join-requires c = λ x e f.
    let self = c.args.self.now in
    let found : Some c.in-Some.fixed ≡ arc_past c.args.past.now (fixed_arcs self.units self.cost) = c.in-Some.ensures in
    past_fits self.units self.cost self.total self.steps self.sound c.args.past.now c.in-Some.fixed x (sym found)
    (sym c.step_past-step.ensures ∙ e)

pub returns-in-Some : goal.returns-in-Some
returns-in-Some c =
    let self = c.args.self.now in
    let found : Some c.in-Some.fixed ≡ arc_past c.args.past.now (fixed_arcs self.units self.cost) = c.in-Some.ensures in
    ap Some c.join.ensures ∙ ap
    (λ o. Some (joined_head c.in-Some.fixed (option_map step_arc o))) c.step_past-step.ensures
    ∙ ap (λ o. first_joined o (option_map step_arc (step_past self.steps c.args.past.now))) found
    ∙ past_of_two self.units self.cost self.total self.steps self.sound c.args.past.now

pub returns-in-None : goal.returns-in-None
returns-in-None c =
    let self = c.args.self.now in
    let found : None ≡ arc_past c.args.past.now (fixed_arcs self.units self.cost) = c.in-None.ensures in
    c.free_of.ensures ∙ ap (option_map step_arc) c.step_past-step.ensures
    ∙ ap (λ o. first_joined o (option_map step_arc (step_past self.steps c.args.past.now))) found
    ∙ past_of_two self.units self.cost self.total self.steps self.sound c.args.past.now
