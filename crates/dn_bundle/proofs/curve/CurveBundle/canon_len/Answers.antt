use Rattle.std.proofs.Common.{rules}
use Rattle.dn_bundle.proofs.curve.CurveBundle.canon_len.Goals as goal

pub returns-in-Two : goal.returns-in-Two
returns-in-Two c = search rules
