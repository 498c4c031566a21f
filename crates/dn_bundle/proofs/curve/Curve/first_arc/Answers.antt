use Rattle.std.proofs.Common.{Some, ap, sym, ◌∙◌, slice_get, option_map}
use Rattle.dn_arc_theory.specs.State.CurveListed.{step_arc, joined_head}
use Rattle.dn_bundle.proofs.FormLaws.{first_fits, first_of_one, first_of_two, or_first, first_joined}
use Rattle.dn_bundle.proofs.curve.Curve.first_arc.Goals as goal

pub join-requires : goal.join-requires
join-requires c = λ x e f.
    let self = c.args.self.now in
    first_fits self.units self.cost self.total self.steps self.sound c.in-Some.fixed x (sym c.in-Some.ensures)
    (sym c.first_step-step.ensures ∙ e)

pub returns-in-Two : goal.returns-in-Two
returns-in-Two c =
    let self = c.args.self.now in
    rw c.in-Two.is (ap Some c.join.ensures ∙ ap
    (λ o. Some (joined_head c.in-Some.fixed (option_map step_arc o))) c.first_step-step.ensures
    ∙ ap (λ o. first_joined o (option_map step_arc (slice_get self.steps 0))) c.in-Some.ensures
    ∙ first_of_two self.units self.cost self.total self.steps self.sound)

pub returns-in-One : goal.returns-in-One
returns-in-One c =
    let self = c.args.self.now in
    rw c.in-One.is (ap (λ o. or_first o (option_map step_arc (slice_get self.steps 0))) c.in-Some.ensures
    ∙ first_of_one self.units self.cost self.total self.steps self.sound)
