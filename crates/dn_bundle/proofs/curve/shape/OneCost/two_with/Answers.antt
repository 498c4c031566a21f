use Rattle.std.proofs.Common.{rules}
use Rattle.dn_bundle.proofs.TwoLaws.{above_made, below_made}
use Rattle.dn_bundle.proofs.curve.shape.OneCost.two_with.Goals as goal

pub returns-then-arc-self : goal.returns-then-arc-self
returns-then-arc-self c =
    λ x e. below_made c.args.self.now c.args.arc.now c.if-self-ne0.false c.if-arc-ne0.false c.if-self-lt1.false
    c.if-arc-lt1.false (search rules) (search rules) (search rules) (search rules) (search rules) x c.if-arc-self.true
    (c.two_of.ensures x e)

pub returns-then-self-arc : goal.returns-then-self-arc
returns-then-self-arc c =
    λ x e. above_made c.args.self.now c.args.arc.now c.if-self-ne0.false c.if-arc-ne0.false c.if-self-lt1.false
    c.if-arc-lt1.false (search rules) (search rules) (search rules) (search rules) (search rules) x c.if-self-arc.true
    (c.two_of-then-self-arc.ensures x e)
