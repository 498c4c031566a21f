use Rattle.std.proofs.Common.{rules, ◌<ℤ◌, ◌^◌, pos, w64, FitsSigned, to_z, of_z, to_z-of_z, refl, arith}
use Rattle.std.proofs.lemmas.Int.{ints}
use Rattle.dn_instance.proofs.ItemSteps.{begun}
use Rattle.dn_instance.proofs.text_so_far.TextSoFar.declare.Goals as goal

pub returns-clause-read : goal.returns-clause-read
returns-clause-read c before i a is some =
    let nodes : FitsSigned w64 c.args.nodes.now = search rules in
    let count : FitsSigned w64 c.args.count.now = search rules in
    let fits : to_z w64 (of_z w64 c.args.count.now) <ℤ pos (2 ^ 63) = omega (arith, ints) in
    begun c.args.self.now _ c.new.result before i _ a is refl c.new.ensures.kind (simp to_z-of_z) fits refl
    (simp to_z-of_z some) refl c.new.ensures.none
