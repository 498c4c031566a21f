use Rattle.std.proofs.Common.{sym, ◌∙◌, ◌+◌, arith}
use Rattle.dn_arc_theory.specs.State.CurveListed.{listed}
use Rattle.dn_bundle.proofs.FormLaws.{none_from}
use Rattle.dn_bundle.proofs.curve.CurveBundle.canon_arc.Goals as goal

pub returns-in_err-arc-2 : goal.returns-in_err-arc-2
returns-in_err-arc-2 c =
    let self = c.args.self.now in
    c.from_residual-in_err-arc-2.ensures ∙ sym
    (none_from (listed c.args.form self.units self.cost self.steps) (c.loop-k._k + 1) c.args.i
    (sym (c.in_err-arc-2.ensures.after c.loop-k._k c.loop-k.invariant)) (omega (arith, c.loop-k-test.true)))
