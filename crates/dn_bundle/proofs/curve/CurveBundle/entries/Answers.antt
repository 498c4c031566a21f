use Rattle.std.proofs.Common.{rules, sym, ap, ◌∙◌, subst, of_z, w64, FitsSigned}
use Rattle.dn_bundle.proofs.CurveLaws.{entries_code, none_forced, some_forced}
use Rattle.dn_bundle.proofs.curve.CurveBundle.entries.Goals as goal
use Rattle.dn_bundle.proofs.curve.CurveBundle.entries.Goals.{then-units-eq0, else-units-eq0}

pub returns : goal.returns
returns c =
    let self = c.args.self.now in
    entries_code self.units self.cost self.total self.steps self.sound c.if-units-eq0.forced c.steps_len.result
    (elim c.if-units-eq0.branch [
      | then-units-eq0 w ↦ none_forced self.units self.cost self.total self.steps self.sound c.if-units-eq0.forced
          w.forced-is (subst (FitsSigned w64) c.units.ensures (search rules))
          (ap (of_z w64) (sym c.units.ensures) ∙ w.if-units-eq0.true)
      | else-units-eq0 w ↦ some_forced self.units self.cost self.total self.steps self.sound c.if-units-eq0.forced
          w.forced-is (subst (FitsSigned w64) c.units.ensures (search rules))
          (λ e. w.if-units-eq0.false (ap (of_z w64) c.units.ensures ∙ e))
    ])
    c.steps_len.ensures.len
