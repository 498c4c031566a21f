use Rattle.std.proofs.Common.{◌↔◌, drop}
use Rattle.dn_flow.specs.State.Spreads.{AreAscending}
use Rattle.dn_flow.proofs.flow.are_ascending.Given as goal

-- the lines that are left ascend from the last one exactly if all ascend
abbrev pub invariant-loop-line : goal.invariant-loop-line
invariant-loop-line l = AreAscending l.last (drop l.line-index l.lines) ↔ AreAscending 0 l.lines
