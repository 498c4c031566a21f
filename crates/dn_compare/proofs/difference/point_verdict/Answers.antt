use Rattle.std.proofs.Common.{rules, w64}
use Rattle.std.specs.Int.RustNames.{FitsSigned}
use Rattle.std.proofs.lemmas.Int.{to_z-of_z}
use Rattle.dn_compare.proofs.HeldVerdicts.{point_on, points_on}
use Rattle.dn_compare.proofs.difference.point_verdict.Goals as goal

pub returns-in-Some : goal.returns-in-Some
returns-in-Some c =
    let id : FitsSigned w64 c.in-Some.id = search rules in
    simp to_z-of_z
    (point_on c.args.left.now.entries c.args.right.now.entries c.in-Some.id
    (rw (c.iter.ensures.value, c.iter-2.ensures.value) at c.in-Some.ensures))

pub returns-in-None : goal.returns-in-None
returns-in-None c =
    points_on c.args.left.now.entries c.args.right.now.entries
    (rw (c.iter.ensures.value, c.iter-2.ensures.value) at c.in-None.ensures)
