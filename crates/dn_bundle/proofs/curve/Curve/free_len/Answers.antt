use Rattle.std.proofs.Common.{sym, ap, ◌∙◌, length}
use Rattle.std.proofs.lemmas.List.{length-map}
use Rattle.dn_arc_theory.specs.State.CurveListed.{step_arc}
use Rattle.dn_bundle.proofs.CurveLaws.{free_arcs, costs_listed}
use Rattle.dn_bundle.proofs.curve.Curve.free_len.Goals as goal

pub returns-clause-arcs : goal.returns-clause-arcs
returns-clause-arcs c = let self = c.args.self.now in
    c.steps_len.ensures.len ∙ sym
    (ap length (free_arcs self.units self.cost self.total self.steps self.sound) ∙ length-map self.steps step_arc)

pub returns-clause-costs : goal.returns-clause-costs
returns-clause-costs c = let self = c.args.self.now in
    c.steps_len.ensures.len ∙ sym (costs_listed self.units self.cost self.total self.steps self.sound)
