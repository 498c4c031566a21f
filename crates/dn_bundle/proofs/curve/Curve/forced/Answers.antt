use Rattle.std.proofs.Common.{sym, ◌∙◌, rules, w64}
use Rattle.std.specs.Int.{w128}
use Rattle.std.proofs.lemmas.Int.{to_z-of_z}
use Rattle.dn_arc_theory.proofs.SoundLaws.{none_is}
use Rattle.dn_arc_theory.proofs.ListedLaws.{listed_units, listed_cost}
use Rattle.dn_bundle.proofs.curve.Curve.forced.Goals as goal

pub returns-clause-units : goal.returns-clause-units
returns-clause-units c =
    let self = c.args.self.now in
    to_z-of_z w64 c.units.result (search rules) ∙ c.units.ensures
    ∙ sym
    (listed_units self.units self.cost self.steps self.sound.some
    (none_is self.units self.cost self.total self.steps self.sound) self.sound.ascending)

pub returns-clause-cost : goal.returns-clause-cost
returns-clause-cost c =
    let self = c.args.self.now in
    to_z-of_z w128 c.cost.result (search rules) ∙ c.cost.ensures
    ∙ sym
    (listed_cost self.units self.cost self.steps self.sound.some
    (none_is self.units self.cost self.total self.steps self.sound) self.sound.ascending)
