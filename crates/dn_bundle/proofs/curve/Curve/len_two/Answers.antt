use Rattle.std.proofs.Common.{ap, ◌∙◌, rules, w64}
use Rattle.std.proofs.lemmas.Int.{to_z-of_z}
use Rattle.dn_arc_theory.specs.State.Steps.{has_step}
use Rattle.dn_bundle.proofs.StepLaws.{next_is}
use Rattle.dn_bundle.proofs.LenLaws.{one_unless, len_with_one, len_with_two}
use Rattle.dn_bundle.proofs.curve.Curve.len_two.Goals as goal

pub returns-in-One : goal.returns-in-One
returns-in-One c =
    let self = c.args.self.now in
    len_with_one self.units self.cost self.total self.steps self.sound c.steps_len-in-One.result
    c.steps_len-in-One.ensures.len c.in-One.units c.in-One.cost c.missing.result c.in-One.ensures.value
    (c.missing.ensures ∙ ap (λ z. one_unless (has_step self.steps z)) (to_z-of_z w64 c.in-One.cost (search rules)))

pub returns-in-Two : goal.returns-in-Two
returns-in-Two c =
    let self = c.args.self.now in
    len_with_two self.units self.cost self.total self.steps self.sound c.steps_len-in-Two.result
    c.steps_len-in-Two.ensures.len c.in-Two.units c.in-Two.cost c.in-Two.above c.missing-in-Two.result
    c.missing-in-Two-2.result c.in-Two.ensures.value
    (c.missing-in-Two.ensures ∙ ap (λ z. one_unless (has_step self.steps z))
    (to_z-of_z w64 c.in-Two.cost (search rules)))
    (c.missing-in-Two-2.ensures ∙ ap (λ z. one_unless (has_step self.steps z))
    (next_is c.in-Two.cost (search rules) c.in-Two.ensures.next))
