use Rattle.std.proofs.Common.{rules, w64}
use Rattle.std.proofs.lemmas.Int.{to_z-of_z}
use Rattle.dn_arc_theory.specs.State.SingleArcs.{length_listed}
use Rattle.dn_flow.proofs.ShareLaws.{lengths_share}
use Rattle.dn_flow.proofs.carries.LeastCarries.share.Goals as goal

pub returns-clause-shares : goal.returns-clause-shares
returns-clause-shares c arcs each same xs split =
    rw (to_z-of_z w64 c.get.result (search rules), to_z-of_z w64 c.args.units.now (search rules))
    (lengths_share c.get.result c.args.units.now arcs (length_listed c.args.self.now.length) c.get.ensures same
    (search rules) xs split)
