use Rattle.std.proofs.Common.{sym, ◌∙◌}
use Rattle.dn_bundle.proofs.CurveLaws.{low_arcs}
use Rattle.dn_bundle.proofs.curve.Curve.fixed.Goals as goal

pub returns : goal.returns
returns c = let self = c.args.self.now in
    c.spread.ensures.value ∙ sym (low_arcs self.units self.cost self.total self.steps self.sound)
