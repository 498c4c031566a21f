use Rattle.dn_bundle.specs.State.Listings.{form_one_arcs}
use Rattle.dn_flow.proofs.ShareLaws.{costs_share, sound_form}
use Rattle.dn_flow.proofs.carries.CurveCarries.share.Goals as goal

pub returns-clause-shares : goal.returns-clause-shares
returns-clause-shares c arcs each same xs split =
    let curve = c.args.self.now in
    costs_share arcs (form_one_arcs curve) each
    (sound_form curve.units curve.cost curve.total curve.steps curve.sound) same c.args.units.now xs split
    c.curve_share.result c.curve_share.ensures.left c.curve_share.ensures.step
