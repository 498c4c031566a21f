use Rattle.std.proofs.Common.{refl, rules}
use Rattle.dn_arc_theory.specs.State.CurveListed.{IsSound}
use Rattle.dn_bundle.proofs.GrowLaws.{too_much, not_too_much, two_are}
use Rattle.dn_bundle.proofs.NewLaws.{needs_more}
use Rattle.dn_bundle.proofs.curve.CurveBundle.add.Goals as goal

pub returns-in_default-clause-sum : goal.returns-in_default-clause-sum
returns-in_default-clause-sum c =
    let old = c.args.self.now in
    let sound : IsSound old.units old.cost c.total.result old.steps = rw c.total.ensures old.sound in (
      (λ e. too_much old.units old.cost c.total.result old.steps c.args.arc sound c.requires (search rules)
          (search rules) c.in_default.ensures),
      (λ m. refl),
    )

pub returns-in-Ok-clause-sum : goal.returns-in-Ok-clause-sum
returns-in-Ok-clause-sum c =
    let old = c.args.self.now in
    let sound : IsSound old.units old.cost c.total.result old.steps = rw c.total.ensures old.sound in (
      (λ e. cc),
      (λ m. absurd
          (not_too_much old.units old.cost c.total.result old.steps c.args.arc sound (search rules)
          (search rules) c.in-Some.ensures.0 m)),
    )

pub returns-in-Err-clause-sum : goal.returns-in-Err-clause-sum
returns-in-Err-clause-sum c =
    let old = c.args.self.now in
    let sound : IsSound old.units old.cost c.total.result old.steps = rw c.total.ensures old.sound in (
      (λ e. cc),
      (λ m. absurd
          (not_too_much old.units old.cost c.total.result old.steps c.args.arc sound (search rules)
          (search rules) c.in-Some.ensures.0 m)),
    )

pub returns-in-Err-clause-widens : goal.returns-in-Err-clause-widens
returns-in-Err-clause-widens c e =
    let old = c.args.self.now in
    let sound : IsSound old.units old.cost c.total.result old.steps = rw c.total.ensures old.sound in
    needs_more old.units old.cost c.total.result old.steps c.args.arc sound c.requires
    (rw (two_are c.total.result c.args.arc.cap (search rules) (search rules)) at c.in-Some.ensures.0)
    (search rules) c.in-Err.ensures.memory
