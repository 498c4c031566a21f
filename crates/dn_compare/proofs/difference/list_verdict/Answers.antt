use Rattle.std.proofs.Common.{rules}
use Rattle.dn_compare.proofs.HeldVerdicts.{same_items}
use Rattle.dn_compare.proofs.difference.list_verdict.Goals as goal

pub returns-in-None : goal.returns-in-None
returns-in-None g c = same_items c.args.left.now c.args.right.now c.in-None.ensures

pub returns-then-left-right : goal.returns-then-left-right
returns-then-left-right g c = search rules
