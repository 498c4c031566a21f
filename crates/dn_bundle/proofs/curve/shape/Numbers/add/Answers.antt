use Rattle.std.proofs.Common.{◌≡◌, ℤ, pos, ◌<ℤ◌, false, ap, ◌∙◌, subst, rules, w64}
use Rattle.std.specs.Int.{w128}
use Rattle.std.proofs.lemmas.Int.{to_z-of_z}
use Rattle.dn_arc_theory.specs.State.Steps.{add_step, has_step}
use Rattle.dn_bundle.specs.State.Shapes.{free}
use Rattle.dn_bundle.proofs.StepLaws.{on_err}
use Rattle.dn_bundle.proofs.GrowLaws.{cost_fits, units_fit, step_is, units_are}
use Rattle.dn_bundle.proofs.curve.shape.Numbers.add.Goals as goal

pub more_cost-self-requires : goal.more_cost-self-requires
more_cost-self-requires c =
    let old = c.args.self.now in
    cost_fits old.units old.cost old.total old.steps c.args.arc c.args.total c.requires.sound c.requires.arc
    c.requires.total c.ranges.total (search rules)

pub overflow_add-self : goal.overflow_add-self
overflow_add-self c =
    let old = c.args.self.now in
    rw (to_z-of_z w64 old.units (search rules), to_z-of_z w64 c.args.arc.low (search rules))
    (units_fit old.units old.cost old.total old.steps c.args.arc c.args.total c.requires.sound c.requires.arc
    c.requires.total c.ranges.total)

pub returns-clause-ok : goal.returns-clause-ok
returns-clause-ok c =
    let old = c.args.self.now in
    record {
      units = units_are old.units old.cost old.total old.steps c.args.arc c.args.total c.requires.sound c.requires.arc
          c.requires.total c.ranges.total (search rules) (search rules);
      cost = to_z-of_z w128 c.more_cost-self.result (search rules) ∙ c.more_cost-self.ensures;
      total = to_z-of_z w64 c.args.total c.ranges.total ∙ c.requires.total;
      steps = c.in_ok-add.ensures.ok ∙ ap (add_step old.steps)
          (step_is old.units old.cost old.total old.steps c.args.arc c.args.total c.requires.sound c.requires.arc
          c.requires.total c.ranges.total (search rules) (search rules) (search rules));
    }

pub returns-in_err-add-clause-memory : goal.returns-in_err-add-clause-memory
returns-in_err-add-clause-memory c =
    let old = c.args.self.now in
    let m =
    subst (λ (m : ℤ × ℤ). (pos 0 <ℤ m.1) × (has_step old.steps m.0 ≡ false))
    (step_is old.units old.cost old.total old.steps c.args.arc c.args.total c.requires.sound c.requires.arc
    c.requires.total c.ranges.total (search rules) (search rules) (search rules)) c.in_err-add.ensures.memory in
    on_err c.from_residual.result (free m.0 m.1)
