use Rattle.std.proofs.Common.{rules, w64}
use Rattle.std.specs.Int.RustNames.{FitsSigned}
use Rattle.std.proofs.lemmas.Int.{to_z-of_z}
use Rattle.dn_compare.proofs.HeldVerdicts.{supply_on, min_on}
use Rattle.dn_compare.proofs.difference.min_verdict.Goals as goal

pub returns-in-Some : goal.returns-in-Some
returns-in-Some c =
    let id : FitsSigned w64 c.in-Some.id = search rules in
    let left : FitsSigned w64 c.in-Some.left = search rules in
    let right : FitsSigned w64 c.in-Some.right = search rules in
    simp to_z-of_z
    (supply_on c.args.left.now.entries c.args.right.now.entries c.args.left_table.now c.args.right_table.now
    c.in-Some.id c.in-Some.left c.in-Some.right
    (rw (c.iter.ensures.value, c.iter-2.ensures.value) at c.in-Some.ensures))

pub returns-in-None : goal.returns-in-None
returns-in-None c =
    min_on c.args.left.now.entries c.args.right.now.entries c.args.left_table.now c.args.right_table.now _
    (rw (c.iter.ensures.value, c.iter-2.ensures.value) at c.in-None.ensures) c.pair_verdict.ensures
