use Rattle.std.proofs.Common.{rules}
use Rattle.dn_canon.proofs.canon.canon_text.Goals as goal

pub returns-in-Err-CountTooLarge : goal.returns-in-Err-CountTooLarge
returns-in-Err-CountTooLarge c = search rules
