use Rattle.std.proofs.Common.{rules}
use Rattle.dn_report.proofs.verdict.verdict_line.Goals as goal

pub returns-in-Nodes : goal.returns-in-Nodes
returns-in-Nodes c = search rules
