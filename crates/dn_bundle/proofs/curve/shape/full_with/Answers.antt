use Rattle.std.proofs.Common.{rules, sym, ap, ◌∙◌, w64, ◌+ℤ◌}
use Rattle.std.proofs.lemmas.Int.{to_z-of_z}
use Rattle.dn_bundle.specs.State.Shapes.{plain, shape_numbers}
use Rattle.dn_bundle.proofs.ShapeLaws.{same_sound, same_grown, made_units, made_cost, made_total}
use Rattle.dn_bundle.proofs.curve.shape.full_with.Goals as goal

pub add-requires-clause-sound : goal.add-requires-clause-sound
add-requires-clause-sound c =
    let one = c.args.one in
    let units = c.from-units.result in
    let cost = c.cost_of.result in
    same_sound (shape_numbers (plain one)) _ _ _ _
    (made_units one units cost c.requires.sound c.from-units.ensures c.cost_of.ensures (search rules)
    (search rules) (search rules))
    (made_cost one units cost c.requires.sound c.from-units.ensures c.cost_of.ensures (search rules)
    (search rules) (search rules))
    (made_total one units cost c.requires.sound c.from-units.ensures c.cost_of.ensures (search rules)
    (search rules) (search rules)) (search rules) c.requires.sound

pub add-requires-clause-total : goal.add-requires-clause-total
add-requires-clause-total c =
    let one = c.args.one in
    let units = c.from-units.result in
    let cost = c.cost_of.result in
    to_z-of_z w64 c.args.total c.ranges.total ∙ c.requires.total
    ∙ ap (λ z. z +ℤ c.args.arc.cap)
    (sym (made_total one units cost c.requires.sound c.from-units.ensures c.cost_of.ensures (search rules)
    (search rules) (search rules)))

pub returns : goal.returns
returns c =
    let one = c.args.one in
    let units = c.from-units.result in
    let cost = c.cost_of.result in
    let old = shape_numbers (plain one) in
    rw c.in_ok-new.ensures.ok (same_grown old _ c.add.new.self c.args.arc
    (made_units one units cost c.requires.sound c.from-units.ensures c.cost_of.ensures (search rules)
    (search rules) (search rules))
    (made_cost one units cost c.requires.sound c.from-units.ensures c.cost_of.ensures (search rules)
    (search rules) (search rules))
    (made_total one units cost c.requires.sound c.from-units.ensures c.cost_of.ensures (search rules)
    (search rules) (search rules)) (search rules) c.in_ok-add.ensures.ok)
