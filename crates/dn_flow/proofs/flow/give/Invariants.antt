use Rattle.std.proofs.Common.{◌≡◌, List, ℤ, ◌++◌, drop, take, length}
use Rattle.std.specs.List.{IsDistinct}
use Rattle.std.specs.Map.{keys_of}
use Rattle.dn_arc_theory.specs.Pairs.{same_pair}
use Rattle.dn_arc_theory.specs.declared.arc.CostArc.{CostArc}
use Rattle.dn_arc_lines.specs.declared.arc_line.ArcLine.{ArcLine}
use Rattle.dn_flow.specs.State.Givings.{AreBalanced, Gives}
use Rattle.dn_flow.specs.declared.share.PairShare.{PairShare}
use Rattle.dn_flow.proofs.flow.give.Given as goal

-- what the lines that are left take completes what those before them took
abbrev pub invariant-loop-i : goal.invariant-loop-i
invariant-loop-i g l =
    let bounds : ArcLine → CostArc = λ line. g.B.Carries.carried (g.B.Carries.line_arc line) in
    let keys = keys_of l.table in
    record {
      gives : (units : List ℤ) (shares : List PairShare)
          → Gives bounds keys l.shares (drop l.i l.lines) units shares
          → Gives bounds keys l.fn.shares l.lines (take l.i l.units ++ units) shares;
      all : IsDistinct same_pair keys → AreBalanced bounds keys l.fn.shares l.lines
          → AreBalanced bounds keys l.shares (drop l.i l.lines);
      shares_kept : length l.shares ≡ length l.fn.shares;
      units_kept : length l.units ≡ length l.lines;
    }
