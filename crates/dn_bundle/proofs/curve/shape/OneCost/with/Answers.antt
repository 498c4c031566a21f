use Rattle.std.proofs.Common.{rules, refl}
use Rattle.dn_bundle.specs.State.Shapes.{plain}
use Rattle.dn_bundle.proofs.ShapeLaws.{plain_sum_fits, plain_taken}
use Rattle.dn_bundle.proofs.curve.shape.OneCost.with.Goals as goal

pub overflow_add-result-2 : goal.overflow_add-result-2
overflow_add-result-2 c =
    plain_sum_fits (plain c.args.self.now) c.args.self.now c.args.arc.now _ refl c.requires.sound c.requires.arc refl
    c.requires.stays c.requires.fits (search rules) (search rules) (search rules) (search rules)

pub returns : goal.returns
returns c =
    plain_taken (plain c.args.self.now) c.args.self.now c.args.arc.now _ refl c.requires.sound c.requires.arc refl
    c.requires.stays c.requires.fits (search rules) (search rules) (search rules) (search rules)
