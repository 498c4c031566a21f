use Rattle.std.proofs.Common.{rules}
use Rattle.dn_line.proofs.line_state.LineState.clear.Goals as goal

pub returns : goal.returns
returns c = search rules
