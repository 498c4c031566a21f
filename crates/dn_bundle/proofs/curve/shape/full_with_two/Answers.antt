use Rattle.std.proofs.Common.{rules, refl}
use Rattle.dn_bundle.specs.State.Shapes.{two, shape_numbers}
use Rattle.dn_bundle.proofs.ShapeLaws.{same_sound, same_grown}
use Rattle.dn_bundle.proofs.TwoLaws.{made_room}
use Rattle.dn_bundle.proofs.curve.shape.full_with_two.Goals as goal

pub add-requires-clause-sound : goal.add-requires-clause-sound
add-requires-clause-sound c =
    same_sound (shape_numbers (two c.args.held)) _ _ _ _ refl refl
    (made_room c.args.held c.requires.sound (search rules) (search rules)) (search rules) c.requires.sound

pub returns : goal.returns
returns c =
    rw c.in_ok-new.ensures.ok (same_grown (shape_numbers (two c.args.held)) _ c.add.new.self c.args.arc refl refl
    (made_room c.args.held c.requires.sound (search rules) (search rules)) (search rules) c.in_ok-add.ensures.ok)
