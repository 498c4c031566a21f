use Rattle.std.proofs.Common.{w64, to_z}
use Rattle.dn_flow.proofs.ShareLaws.{next_fits}
use Rattle.dn_flow.proofs.flow.sum.Goals as goal

pub returns-in_err-sum-clause-some : goal.returns-in_err-sum-clause-some
returns-in_err-sum-clause-some c some most =
    let inv = c.loop-number.invariant in
    absurd (c.in_err-sum.ensures
    (next_fits c.args.numbers.now c.loop-number.number-index (to_z w64 c.loop-number.sum-bits) c.loop-number-test.true
    inv.some inv.sum (inv.left some) most))
