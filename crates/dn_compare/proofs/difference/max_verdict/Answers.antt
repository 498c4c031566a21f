use Rattle.std.proofs.Common.{rules, ap, of_z, w64}
use Rattle.std.specs.Int.RustNames.{FitsSigned}
use Rattle.std.proofs.lemmas.Int.{to_z-of_z}
use Rattle.dn_compare.proofs.HeldVerdicts.{source_on, sink_on, max_on}
use Rattle.dn_compare.proofs.difference.max_verdict.Goals as goal

pub returns-then-left-right : goal.returns-then-left-right
returns-then-left-right c =
    let left : FitsSigned w64 c.args.left.0 = search rules in
    let right : FitsSigned w64 c.args.right.0 = search rules in
    simp to_z-of_z
    (source_on c.args.left.0 c.args.left.1 c.args.right.0 c.args.right.1 c.args.left_table.now c.args.right_table.now
    (λ e. c.if-left-right.true (ap (of_z w64) e)))

pub returns-then-left-right-2 : goal.returns-then-left-right-2
returns-then-left-right-2 c =
    let left : FitsSigned w64 c.args.left.1 = search rules in
    let right : FitsSigned w64 c.args.right.1 = search rules in
    simp to_z-of_z
    (sink_on c.args.left.0 c.args.left.1 c.args.right.0 c.args.right.1 c.args.left_table.now c.args.right_table.now
    (search rules) (λ e. c.if-left-right-2.true (ap (of_z w64) e)))

pub returns : goal.returns
returns c =
    max_on c.args.left.0 c.args.left.1 c.args.right.0 c.args.right.1 c.args.left_table.now c.args.right_table.now _
    (search rules) (search rules) c.pair_verdict.ensures
