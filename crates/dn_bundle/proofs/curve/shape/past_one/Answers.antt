use Rattle.dn_bundle.proofs.NewLaws.{leaves_room}
use Rattle.dn_bundle.proofs.StepLaws.{on_err}
use Rattle.dn_bundle.proofs.curve.shape.past_one.Goals as goal

pub returns-in_err-full_with-clause-memory : goal.returns-in_err-full_with-clause-memory
returns-in_err-full_with-clause-memory c =
    on_err c.from_residual.result
    (leaves_room c.args.one c.args.arc c.requires.arc c.requires.some c.requires.leaves)
