use Rattle.std.proofs.Common.{sym, ap, ◌∙◌, slice_get, option_map}
use Rattle.std.proofs.lemmas.Option.{slice_get-map}
use Rattle.dn_arc_theory.specs.State.CurveListed.{step_arc}
use Rattle.dn_bundle.proofs.CurveLaws.{free_arcs}
use Rattle.dn_bundle.proofs.curve.Curve.free.Goals as goal

pub returns : goal.returns
returns c = let self = c.args.self.now in
    ap (option_map step_arc) c.step.ensures ∙ sym
    (ap (λ l. slice_get l c.args.i) (free_arcs self.units self.cost self.total self.steps self.sound)
    ∙ slice_get-map step_arc self.steps c.args.i)
