use Rattle.std.proofs.Common.{rules, sym, ap, ◌∙◌, to_z, of_z, w64, FitsSigned}
use Rattle.std.proofs.lemmas.Int.{to_z-of_z}
use Rattle.dn_bundle.proofs.Cost128Laws.{widened}
use Rattle.dn_bundle.proofs.PartLaws.{forced_gap, no_gap, free_gap}
use Rattle.dn_bundle.proofs.curve.Curve.gap_to_none.Goals as goal

pub returns-then-units-ne0 : goal.returns-then-units-ne0
returns-then-units-ne0 c = let self = c.args.self.now in
    forced_gap self.units self.cost self.total self.steps self.sound
    (λ e. c.if-units-ne0.true (ap (of_z w64) (c.units.ensures ∙ e)))

pub returns-in_err-step : goal.returns-in_err-step
returns-in_err-step c =
    let self = c.args.self.now in
    let f : FitsSigned w64 c.units.result = search rules in
    rw c.from_residual.ensures (no_gap self.units self.cost self.total self.steps self.sound
    (sym c.units.ensures ∙ sym (to_z-of_z w64 c.units.result f)
    ∙ ap (to_z w64) c.if-units-ne0.false) c.in_err-step.ensures)

pub returns : goal.returns
returns c =
    let self = c.args.self.now in
    let f : FitsSigned w64 c.units.result = search rules in
    let g : FitsSigned w64 c.in_ok-step.step.0 = search rules in
    rw (widened c.in_ok-step.step.0 g)
    (free_gap self.units self.cost self.total self.steps self.sound
    (sym c.units.ensures ∙ sym (to_z-of_z w64 c.units.result f)
    ∙ ap (to_z w64) c.if-units-ne0.false) c.in_ok-step.step c.in_ok-step.ensures)
