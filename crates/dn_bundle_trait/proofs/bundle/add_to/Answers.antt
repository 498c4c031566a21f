use Rattle.dn_bundle_trait.proofs.BundleLaws.{fits_alone}
use Rattle.dn_bundle_trait.proofs.bundle.add_to.Goals as goal

pub returns-in-Ok-clause-sum : goal.returns-in-Ok-clause-sum
returns-in-Ok-clause-sum g c = (
  λ e. cc,
  λ m. absurd
      (fits_alone g.B.Bundle.bundle c.args.bundle.now c.args.arc c.in-None.is c.of.ensures.fits m),
)

pub returns-in-Err-clause-sum : goal.returns-in-Err-clause-sum
returns-in-Err-clause-sum g c = (
  λ e. cc,
  λ m. absurd
      (fits_alone g.B.Bundle.bundle c.args.bundle.now c.args.arc c.in-None.is c.of.ensures.fits m),
)
