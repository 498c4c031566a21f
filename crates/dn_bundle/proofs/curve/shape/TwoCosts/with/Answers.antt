use Rattle.std.proofs.Common.{rules}
use Rattle.dn_bundle.proofs.TwoLaws.{first_made, second_made, neither}
use Rattle.dn_bundle.proofs.curve.shape.TwoCosts.with.Goals as goal

pub returns-then-arc-first-clause-grown : goal.returns-then-arc-first-clause-grown
returns-then-arc-first-clause-grown c =
    first_made c.args.self.now c.args.arc.now c.requires.sound c.requires.arc c.requires.some c.requires.fits
    (search rules) (search rules) (search rules) (search rules) (search rules) (search rules) c.if-arc-ne0.false
    c.first_of-first.result c.first_of-first.ensures
    (search rules) c.if-arc-first.true

pub returns-then-arc-second-clause-grown : goal.returns-then-arc-second-clause-grown
returns-then-arc-second-clause-grown c =
    second_made c.args.self.now c.args.arc.now c.requires.sound c.requires.arc c.requires.some c.requires.fits
    (search rules) (search rules) (search rules) (search rules) (search rules) (search rules) c.if-arc-ne0.false
    c.first_of-first.result c.first_of-first.ensures
    (search rules) c.second_of-second.result c.second_of-second.ensures (search rules) c.if-arc-second.true

pub returns-clause-leaves : goal.returns-clause-leaves
returns-clause-leaves c =
    λ e. neither c.args.self.now c.args.arc.now c.requires.sound c.requires.arc c.requires.some c.requires.fits
    (search rules) (search rules) (search rules) (search rules) (search rules) (search rules) c.if-arc-ne0.false
    c.first_of-first.result c.first_of-first.ensures
    (search rules) c.second_of-second.result c.second_of-second.ensures (search rules) c.if-arc-first.false
    c.if-arc-second.false
