use Rattle.std.proofs.Common.{drop}
use Rattle.std.specs.List.{concat}
use Rattle.dn_sink.specs.Puts.{HasPut}
use Rattle.dn_report.proofs.lines.put_lines.Given as goal

abbrev pub invariant-loop-line : goal.invariant-loop-line
invariant-loop-line g l = HasPut g.K.Sink.sink l.fn.sink l.sink (concat (drop l.line-index l.lines)) (concat l.lines)
