-- Whether a companion fits a graph, as C has it.
use Rattle.std.specs.Prelude.{◌≡◌, pos, Option, Some, Result, Ok, Err}
use Rattle.dn_instance.specs.Companions.{companion_fit}
use Rattle.dn_instance.specs.State.Helds.{OfBoth}
use Rattle.dn_instance.specs.declared.companion.CompanionFault.{CompanionFault}
use Rattle.dn_instance.specs.declared.companion.CompanionFault.TheVariants.{NotInGraph, NotKinds}
use Rattle.dn_c.specs.declared.fits.Fit.{Fit}
use Rattle.dn_c.specs.declared.work.Work.{Work}
use Rattle.dn_c.specs.declared.work.Work.TheVariants as Works

-- the answer to a companion's check: the number of its fault, and the node that the fault names
abbrev pub fit_of : Result (Unit {0}) CompanionFault → Fit
fit_of (Ok x) = record { code = 0; node = pos 0 }
fit_of (Err (NotInGraph id)) = record { code = 35; node = id }
fit_of (Err NotKinds) = record { code = 36; node = pos 0 }

-- the answer where a handle holds no instance
abbrev pub neither : Fit
neither = record { code = 255; node = pos 0 }

-- whether the second work is a companion that fits the graph of the first
abbrev pub Judges : Option Work → Option Work → Fit → Type 0
Judges (Some (Works.Read graph _)) (Some (Works.Read companion _)) fit =
    (check : Result (Unit {0}) CompanionFault) × OfBoth graph companion (λ I J. check ≡ companion_fit I J)
    × (fit ≡ fit_of check)
Judges _ _ fit = fit ≡ neither
