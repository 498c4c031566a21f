use Rattle.std.proofs.Common.{ap, ◌∙◌, ◌++◌}
use Rattle.dn_nodes.proofs.AfterLaws.{no_bounds}
use Rattle.dn_nodes.proofs.WalkLaws.{from_is}
use Rattle.dn_nodes.proofs.walk.LinksIter.of.Goals as goal

pub returns : goal.returns
returns c =
    rw (c.range.ensures.between tt ∙ no_bounds c.args.above.now.entries)
    (ap (λ l. l ++ c.args.above.now.entries) (from_is 0 c.args.links.now))
