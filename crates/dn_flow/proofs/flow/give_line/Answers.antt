use Rattle.std.proofs.Common.{◌<◌, length, ◌∙◌, arith}
use Rattle.std.specs.Map.{keys_of}
use Rattle.std.proofs.lemmas.Map.Entries.{length-keys_of}
use Rattle.dn_arc_theory.specs.Pairs.{bundle}
use Rattle.dn_arc_theory.specs.declared.arc.CostArc.{CostArc}
use Rattle.dn_arc_lines.specs.declared.arc_line.ArcLine.{ArcLine}
use Rattle.pair_index.specs.State.Positions.{key_at}
use Rattle.dn_flow.specs.State.Spreads.{arcs_by}
use Rattle.dn_flow.proofs.FitLaws.{line_share, line_taken, lines_each}
use Rattle.dn_flow.proofs.flow.give_line.Goals as goal

pub returns-in-Some-clause-all : goal.returns-in-Some-clause-all
returns-in-Some-clause-all g c lines apart b =
    let bounds : ArcLine → CostArc = λ line. g.B.Carries.carried (g.B.Carries.line_arc line) in
    let keys = keys_of c.args.table.now in
    let shares = c.args.shares.now in
    let line = c.args.line.now in
    let at = c.in-Some.at in
    let low = c.in-Some.ensures.0 in
    let key = c.in-Some.ensures.1 ∙ c.pair_of.ensures in
    let long : at < length shares = omega (arith, c.requires.pairs, low, length-keys_of c.args.table.now) in
    let was = line_share bounds keys apart shares line lines at b low key in
    let taken = c.take.ensures.balanced (bundle (key_at keys at) (arcs_by bounds lines))
    (rw c.bounds-arc.ensures b.each.0) (lines_each bounds keys apart shares line lines (key_at keys at) b)
    (rw c.bounds-arc.ensures was) in
    (taken.0, line_taken bounds keys apart shares line lines at c.take.new.share b low long key taken.1)
