use Rattle.std.proofs.Common.{rules, refl, ◌-◌, ◌^◌, pos, ◌-ℤ◌, ◌≤ℤ◌, to_z, of_z, w64, ap, ◌∙◌, arith}
use Rattle.std.proofs.lemmas.Int.{ints, to_z-of_z}
use Rattle.dn_bundle.proofs.StepLaws.{less}
use Rattle.dn_flow.proofs.ShareLaws.{balanced_part, sub_from}
use Rattle.dn_flow.proofs.share.take.Goals as goal

pub returns-then-share-units-clause-balanced : goal.returns-then-share-units-clause-balanced
returns-then-share-units-clause-balanced c lines one each b =
    let share = c.args.share.now in
    let part = c.part-units.result in
    let taken = balanced_part share c.args.line.now part.0 part.1 lines c.part-units.ensures one each b in
    let few = less share.left part.0 (search rules) (search rules) c.if-share-units.true in
    absurd (omega (arith, ints, few, taken.enough))

pub returns-clause-balanced : goal.returns-clause-balanced
returns-clause-balanced c lines one each b =
    let share = c.args.share.now in
    let part = c.part-units.result in
    let taken = balanced_part share c.args.line.now part.0 part.1 lines c.part-units.ensures one each b in
    let most : share.left ≤ℤ pos (2 ^ 63 - 1) = search rules in
    let is = ap (λ z. to_z w64 (of_z w64 (z -ℤ to_z w64 (of_z w64 part.0)))) (to_z-of_z w64 share.left (search rules))
    ∙ sub_from share.left part.0 (search rules) (omega (arith, ints, one.some, c.part-units.ensures.low)) taken.enough
    most in
    (refl, rw (to_z-of_z w64 part.1 (search rules), is) (taken.after (share.left -ℤ part.0) (omega (arith, ints))))
