use Rattle.std.proofs.Common.{◌∙◌}
use Rattle.dn_bundle.proofs.StepLaws.{has_is}
use Rattle.dn_bundle.proofs.steps.has_in.Goals as goal

pub returns : goal.returns
returns c = c.contains_key.ensures ∙ has_is c.args.map.now.entries c.args.cost.now
