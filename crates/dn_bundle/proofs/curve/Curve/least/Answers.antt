use Rattle.std.proofs.Common.{sym, ap, ◌∙◌, subst, rules, to_z, of_z, w64}
use Rattle.std.specs.Int.{w128}
use Rattle.std.proofs.lemmas.Int.{to_z-of_z, of_z-to_z}
use Rattle.dn_bundle.proofs.StepLaws.{less}
use Rattle.dn_bundle.proofs.WalkLaws.{IsAt, least_at, at_least, last_fits, last_is, next_fits, next, done_is, done_not, too_little}
use Rattle.dn_bundle.proofs.curve.Curve.least.Goals as goal

pub returns-then-x-units : goal.returns-then-x-units
returns-then-x-units c = λ k l.
    let self = c.args.self.now in
    too_little self.units self.cost self.steps c.args.x k
    (rw (← c.units-units.ensures) (less c.args.x c.units-units.result (search rules) (search rules) c.if-x-units.true))
    (least_at self.units self.cost self.total self.steps self.sound c.args.x k l)

pub more_cost-requires : goal.more_cost-requires
more_cost-requires c =
    let self = c.args.self.now in
    last_fits self.units self.cost self.steps (to_z w64 (of_z w64 c.args.x)) (to_z w64 c.loop-step.taken-bits)
    (to_z w128 c.loop-step.cost-bits) c.loop-step.step-iterator c.next.new.self c.in-Some.step (search rules)
    (search rules) (search rules) c.loop-step.invariant c.in-Some.ensures.steps c.if-left-step.true

pub returns-then-left-step : goal.returns-then-left-step
returns-then-left-step c =
    let self = c.args.self.now in
    at_least self.units self.cost self.total self.steps self.sound c.args.x _
    (subst (λ z. IsAt self.units self.cost self.steps z (to_z w128 (of_z w128 c.more_cost.result)))
    (to_z-of_z w64 c.args.x c.ranges.x)
    (last_is self.units self.cost self.steps (to_z w64 (of_z w64 c.args.x)) (to_z w64 c.loop-step.taken-bits)
    (to_z w128 c.loop-step.cost-bits) c.loop-step.step-iterator c.next.new.self c.in-Some.step (search rules)
    (search rules) (search rules) c.loop-step.invariant c.in-Some.ensures.steps
    (to_z w128 (of_z w128 c.more_cost.result)) c.if-left-step.true
    (to_z-of_z w128 c.more_cost.result (search rules) ∙ c.more_cost.ensures)))

pub more_cost-cost-requires : goal.more_cost-cost-requires
more_cost-cost-requires c =
    let self = c.args.self.now in
    next_fits self.units self.cost self.steps (to_z w64 (of_z w64 c.args.x)) (to_z w64 c.loop-step.taken-bits)
    (to_z w128 c.loop-step.cost-bits) c.loop-step.step-iterator c.next.new.self c.in-Some.step (search rules)
    (search rules) (search rules) c.loop-step.invariant c.in-Some.ensures.steps

pub loop-step-preserved : goal.loop-step-preserved
loop-step-preserved c =
    let self = c.args.self.now in
    next self.units self.cost self.steps (to_z w64 (of_z w64 c.args.x)) (to_z w64 c.loop-step.taken-bits)
    (to_z w128 c.loop-step.cost-bits) c.loop-step.step-iterator c.next.new.self c.in-Some.step (search rules)
    (search rules) (search rules) c.loop-step.invariant c.in-Some.ensures.steps c.more_cost-cost.result
    (search rules) c.if-left-step.false c.more_cost-cost.ensures

pub returns-then-x-taken : goal.returns-then-x-taken
returns-then-x-taken c =
    let self = c.args.self.now in
    at_least self.units self.cost self.total self.steps self.sound c.args.x _
    (subst (λ z. IsAt self.units self.cost self.steps z (to_z w128 c.loop-step.cost-bits))
    (to_z-of_z w64 c.args.x c.ranges.x)
    (done_is self.units self.cost self.steps (to_z w64 (of_z w64 c.args.x)) (to_z w64 c.loop-step.taken-bits)
    (to_z w128 c.loop-step.cost-bits) c.loop-step.step-iterator c.loop-step.invariant c.in-None.ensures.steps.0
    (ap (to_z w64) c.if-x-taken.true)))

pub returns-else-x-taken : goal.returns-else-x-taken
returns-else-x-taken c = λ k l.
    let self = c.args.self.now in
    let x_is = to_z-of_z w64 c.args.x c.ranges.x in
    done_not self.units self.cost self.steps (to_z w64 (of_z w64 c.args.x)) (to_z w64 c.loop-step.taken-bits)
    (to_z w128 c.loop-step.cost-bits) c.loop-step.step-iterator c.loop-step.invariant c.in-None.ensures.steps.0
    (λ e. c.if-x-taken.false (ap (of_z w64) (sym x_is ∙ e) ∙ of_z-to_z w64 c.loop-step.taken-bits (search rules)))
    k (rw x_is (least_at self.units self.cost self.total self.steps self.sound c.args.x k l))
