use Rattle.std.proofs.Common.{rules}
use Rattle.dn_bundle.proofs.curve.CurveBundle.how.Goals as goal

pub returns-in-Some-Some : goal.returns-in-Some-Some
returns-in-Some-Some c = search rules
