use Rattle.std.proofs.Common.{◌≡◌, ◌+◌, ℤ, List, ◌++◌, take, length}
use Rattle.dn_arc_theory.specs.State.Bundles.{meant}
use Rattle.dn_flow.specs.State.Givings.{AreFilled, Fills, Fits}
use Rattle.dn_flow.specs.declared.share.PairShare.{PairShare}
use Rattle.dn_flow.proofs.flow.fill.Given as goal

-- what fills the shares that are left completes what fills those before them
abbrev pub invariant-loop-pair : goal.invariant-loop-pair
invariant-loop-pair g l =
    let facts = g.B.Bundle.bundle in
    let lists = facts.listed l.form in
    let carried = g.B.Carries.carried in
    record {
      fills : (shares : List PairShare) → Fills lists l._pair-iterator l.rest shares
          → Fills lists l.table l.flow (take l.at l.shares ++ shares);
      fits : (arcs : List ((ℤ × ℤ) × _)) → Fits facts.kind carried lists (meant facts) l.table l.flow arcs
          → Fits facts.kind carried lists (meant facts) l._pair-iterator l.rest arcs;
      all : (arcs : List ((ℤ × ℤ) × _)) → Fits facts.kind carried lists (meant facts) l.table l.flow arcs
          → (shares : List PairShare) → AreFilled carried l._pair-iterator shares arcs
          → AreFilled carried l.table (take l.at l.shares ++ shares) arcs;
      at : l.at + length l._pair-iterator ≡ length l.table;
      kept : length l.shares ≡ length l.fn.shares;
    }
