use Rattle.dn_laws.proofs.bundles.SomeDifference.{length_or_differ, total_or_differ, curve_or_differ}
use Rattle.dn_laws.proofs.bundles.laws.some_difference.Goals as goal

pub returns : goal.returns
returns c = record { lengths = length_or_differ; capacities = total_or_differ; costs = curve_or_differ }
