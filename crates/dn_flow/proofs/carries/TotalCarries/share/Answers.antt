use Rattle.std.proofs.Common.{rules, w64, arith}
use Rattle.std.proofs.lemmas.Int.{ints, to_z-of_z}
use Rattle.dn_flow.proofs.ShareLaws.{caps_fit, caps_share}
use Rattle.dn_flow.proofs.carries.TotalCarries.share.Goals as goal

pub returns-then-get-units-clause-shares : goal.returns-then-get-units-clause-shares
returns-then-get-units-clause-shares c arcs each same xs split =
    let fits = caps_fit c.args.self.now.total c.args.units.now arcs same xs split in
    let less = rw (to_z-of_z w64 c.get.result (search rules), to_z-of_z w64 c.args.units.now (search rules))
    at c.if-get-units.true in
    omega (arith, ints, fits, less, c.get.ensures)

pub returns-clause-shares : goal.returns-clause-shares
returns-clause-shares c arcs each same xs split =
    rw (to_z-of_z w64 c.args.units.now (search rules))
    (caps_share c.args.self.now.total c.args.units.now arcs same xs split)
